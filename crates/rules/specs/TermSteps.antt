-- Document 02, item 4, a reactor in a term of the consent: what nitrification leaves of the sludge age for denitrification,
-- and whether the term's nitrate is covered. The sludge age t is the design's. Assumes nothing.
use Rattle.std.specs.Prelude.{ℕ, ◌-◌, ◌*◌, min, Bool, cond, leb}
use Rattle.rules.specs.Rounding.{up}
use Rattle.rules.specs.Limits.{least_fraction}
use Rattle.rules.specs.AgeNitrate.{safety_factor, aerobic_age, corrected_age, denitrified, removes, covered}
use Rattle.rules.specs.declared.Plant.{Plant}
use Rattle.rules.specs.declared.Concentrations.{Concentrations}
use Rattle.rules.specs.declared.Process.{Process}
use Rattle.rules.specs.declared.Way.{Way}
use Rattle.rules.specs.declared.Reactor.{Reactor}
use Rattle.rules.specs.declared.Term.{Term}

-- up(1000a / t): what nitrification needs of the sludge age, thousandths, from a and t
unfoldable pub aerobic_share : ℕ → ℕ → ℕ
aerobic_share aerobic age = up (1000 * aerobic) age

-- the same in a term: a at its temperature, with the plant's SF
unfoldable pub term_share : Plant → Reactor → Term → ℕ
term_share p reactor term = aerobic_share (aerobic_age (safety_factor p.load) term.temperature) reactor.age

-- nitrification is kept: 1000 − up(1000a / t) is not below zero
unfoldable pub nitrifies : Plant → Reactor → Term → Bool
nitrifies p reactor term = leb (term_share p reactor term) 1000

-- the fraction left for denitrification, thousandths: the smaller of f and 1000 − up(1000a / t)
unfoldable pub term_fraction : Plant → Reactor → Term → ℕ
term_fraction p reactor term = min reactor.fraction (1000 - term_share p reactor term)

-- K × C or what stands for it at a fraction and a temperature: 0 at a fraction under 200
unfoldable pub removes_from200 : Way → Process → Concentrations → ℕ → ℕ → ℕ → ℕ
removes_from200 way process x fraction temperature corrected =
    cond (leb least_fraction fraction) (removes way process x fraction temperature corrected) 0

-- the same in a term, with U of the design's t at the term's temperature
unfoldable pub term_removes : Plant → Concentrations → Reactor → Term → ℕ
term_removes p x reactor term =
    removes_from200 p.way p.process x (term_fraction p reactor term) term.temperature
    (corrected_age reactor.age term.temperature)

-- D in a term, from its target
unfoldable pub term_denitrified : Reactor → Term → ℕ
term_denitrified reactor term = denitrified reactor.nitrified term.nitrate_target

-- the term's nitrate is covered, the dose included
unfoldable pub term_covered : Plant → Concentrations → Reactor → Term → Bool
term_covered p x reactor term = covered (term_removes p x reactor term) reactor.removed_by_dose (term_denitrified reactor term)
