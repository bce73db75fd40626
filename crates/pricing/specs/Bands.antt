-- The price of a volume band by band, for the contracts of the inner functions. That it is the price by single cubic metres is the law
-- `by_bands` in proofs/Charging.antt. Assumes nothing.
use Rattle.std.specs.Prelude.{ℕ, zero, suc, ◌+◌, ◌-◌, ◌*◌, min, Bool, true, false, eqb, Ok, Err}
use Rattle.rules.specs.Price.{band_limit, band_price}
use Rattle.rules.specs.Ranges.{VolumeBounds}
use Rattle.rules.specs.declared.Tariff.{Tariff}
use Rattle.rules.specs.Results.{Answer}

-- where a band's charge of a volume ends: at its limit, or at the volume where that comes first; the last band's at the volume
abbrev pub charge_end : Bool → ℕ → ℕ → ℕ
charge_end true limit volume = volume
charge_end false limit volume = min limit volume

-- the same of band k of a tariff
abbrev pub band_end : Tariff → ℕ → ℕ → ℕ
band_end t volume k = charge_end (eqb (k + 1) t.count) (band_limit t k) volume

-- how many metres of a volume the first k bands charge ..
unfoldable pub charged_by : Tariff → ℕ → ℕ → ℕ
charged_by t volume zero = 0
charged_by t volume (suc k) = charged_by t volume k + (band_end t volume k - charged_by t volume k)

-- .. and what these cost
unfoldable pub cost_by : Tariff → ℕ → ℕ → ℕ
cost_by t volume zero = 0
cost_by t volume (suc k) = cost_by t volume k + (band_end t volume k - charged_by t volume k) * band_price t k

-- limits of the volumes of an answer's sheet
abbrev pub AnswerVolumes : Answer → Type 0
AnswerVolumes (Ok s) = VolumeBounds s
AnswerVolumes (Err n) = Unit {0}
