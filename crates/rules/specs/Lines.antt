-- Document 02, item 8: the lines of a works. Each is a plant of its own, with its parts of the works' flows and site, chosen for over
-- the works' concentrations. Lines are counted from 0 here, from 1 in what a caller asks. Assumes nothing.
use Rattle.std.specs.Prelude.{ℕ, zero, suc, ◌+◌, ◌-◌, ◌*◌, ◌≡◌, Bool, true, false, ◌&&◌, List, ◌∷◌, leb, eqb, get_or, Ok, Err}
use Rattle.rules.specs.Rounding.{down}
use Rattle.rules.specs.Sums.{sum_from}
use Rattle.rules.specs.Limits.{most_lines}
use Rattle.rules.specs.Rules.{Rule, rule, verdict}
use Rattle.rules.specs.PlantData.{within}
use Rattle.rules.specs.Accepting.{values_of, data_rules, accept_by}
use Rattle.rules.specs.Choosing.{grid, ChosenAmong}
use Rattle.rules.specs.OtherSteps.{altered_plant}
use Rattle.rules.specs.declared.Plant.{Plant}
use Rattle.rules.specs.declared.Readings.{Readings}
use Rattle.rules.specs.declared.Concentrations.{Concentrations}
use Rattle.rules.specs.declared.Split.{Split}
use Rattle.rules.specs.declared.Refusal.{Refusal}
use Rattle.rules.specs.Results.{Acceptance}
use Rattle.rules.specs.Results.{Answer}

-- the share of line i, thousandths
abbrev pub share : Split → ℕ → ℕ
share split i = get_or split.shares i 0

-- the shares of the first n lines added up
unfoldable pub shares_to : Split → ℕ → ℕ
shares_to split n = sum_from 0 n (share split)

-- each of the first n shares of a list is at least 1
unfoldable pub shares_positive : List ℕ → ℕ → Bool
shares_positive shares zero = true
shares_positive shares (suc n) = shares_positive shares n && leb 1 (get_or shares n 0)

-- two to eight lines, each share at least 1, the shares adding up to 1,000
unfoldable pub split_valid : Split → Bool
split_valid split = within 2 most_lines split.count && (shares_positive split.shares split.count && eqb (shares_to split split.count) 1000)

-- line i's part of an amount: the difference of down(whole × share / 1000) taken on the running sums of shares
unfoldable pub line_part : Split → ℕ → ℕ → ℕ
line_part split whole i = down (whole * shares_to split (i + 1)) 1000 - down (whole * shares_to split i) 1000

-- line i as a plant: its parts of Q, Qw and the site's surface; all else, L too, is the works'
unfoldable pub line_of : Plant → Split → ℕ → Plant
line_of p split i =
    altered_plant (line_part split p.flow i) (line_part split p.wet_weather_flow i) p.nitrate_target (line_part split p.site_surface i)
    p.site_depth
    p.sludge_volume_index
    p.dose
    p.consent
    p.way
    p

-- none of a line's Q, Qw and surface is 0
unfoldable pub line_positive : Plant → Bool
line_positive line = leb 1 line.flow && (leb 1 line.wet_weather_flow && leb 1 line.site_surface)

-- Demand 3 for a line, as a plant of its own over the works' concentrations: 1 where a part of it is 0, else the one chosen on its
-- grid, a sheet or 5.
abbrev pub LineChosenBy : Bool → Plant → Concentrations → Answer → Type 0
LineChosenBy true line x a = ChosenAmong line x (grid line) a
LineChosenBy false line x a = a ≡ Err Refusal.PlantData

abbrev pub LineChosen : Plant → Concentrations → Answer → Type 0
LineChosen line x a = LineChosenBy (line_positive line) line x a

-- The answer of one line, asked for by its number from 1: 18 where the split is invalid or the works has no such line; then the rules
-- for one plant's data, on the whole works' data; then the line's own.
unfoldable pub line_rules : Plant → Readings → Split → ℕ → List Rule
line_rules p r split number = rule Refusal.Lines (split_valid split && within 1 split.count number) ∷ data_rules p r

unfoldable pub accept_line : Plant → Readings → Split → ℕ → Acceptance
accept_line p r split number = accept_by (verdict (line_rules p r split number)) (values_of p r)

abbrev pub LineAccepted : Plant → Answer → Acceptance → Type 0
LineAccepted line a (Err n) = a ≡ Err n
LineAccepted line a (Ok x) = LineChosen line x a

abbrev pub LineAnswered : Plant → Readings → Split → ℕ → Answer → Type 0
LineAnswered p r split number a = LineAccepted (line_of p split (number - 1)) a (accept_line p r split number)
