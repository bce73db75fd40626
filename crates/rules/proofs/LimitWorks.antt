-- Item 14 is said of one line. Of a works in lines it is false for the site's surface, since a line's part of it is rounded: here a works with
-- a larger site loses its design, as the second of three lines gets a square metre less of it. Assumes nothing.
use mathlib.Core.Path.{◌≡◌, refl, ap, subst, ◌∙◌}
use mathlib.Core.Bool.{Bool, true, false}
use mathlib.Core.List.{[], ◌∷◌}
use Prim.Native.Nat.{ℕ}
use native.Mathlib.Omega.{arith}
use lib.Dec.{T}
use Rattle.std.specs.Prelude.{Ok, Err, Result}
use Rattle.rules.specs.Rules.{all_kept}
use Rattle.rules.specs.Consent.{no_terms}
use Rattle.rules.specs.SettlingSteps.{settling_of}
use Rattle.rules.specs.Examining.{tank_rules, permitted}
use Rattle.rules.specs.Choosing.{grid, ChosenAmong}
use Rattle.rules.specs.OtherSteps.{altered_plant}
use Rattle.rules.specs.Lines.{shares_to, shares_positive, split_valid, line_part, line_of, line_positive, LineChosenBy, LineChosen}
use Rattle.rules.specs.Works.{works_rules, accept_works, answer_verdict, first_refused, works_by, works_of, WorksOfLines, WorksAccepted, WorksChosen}
use Rattle.rules.specs.LooserLimits.{Limit, limit_of, with_limit, AlikeBut}
use Rattle.rules.specs.Cases.{variant, case_a, readings_a, concentrations_a, candidate}
use Rattle.rules.specs.declared.Plant.{Plant}
use Rattle.rules.specs.declared.Candidate.{Candidate}
use Rattle.rules.specs.declared.Sheet.{Sheet}
use Rattle.rules.specs.declared.Split.{Split}
use Rattle.rules.specs.declared.Works.{Works}
use Rattle.rules.specs.declared.TankFlow.{TankFlow}
use Rattle.rules.specs.declared.Way.{Way}
use Rattle.rules.specs.declared.Refusal.{Refusal}
use Rattle.rules.specs.Results.{Answer, Verdict}
use Rattle.rules.proofs.Computing.{steps}
use Rattle.rules.proofs.Examined.{permitted_keeps}
use Rattle.rules.proofs.GridTests.{tanks_passing, no_tank_passes}
use Rattle.rules.proofs.WiderChoice.{design_chosen, none_chosen}

-- Case A with another wet weather flow and site surface, in three lines
abbrev pub on_site : ℕ → Plant
on_site surface = altered_plant 5_000 605 10_000 surface 5_000 100 0 no_terms Way.Bod case_a

abbrev pub three : Split
three = record { count = 3; shares = 500 ∷ 100 ∷ 400 ∷ [] }

pub alike_sites : AlikeBut Limit.site_surface (on_site 385) (on_site 386)
unfolding steps limit_of with_limit
alike_sites = record { all_else = refl; looser = omega arith }

accepted_385 : accept_works (on_site 385) readings_a three ≡ Ok concentrations_a
unfolding steps shares_to shares_positive split_valid works_rules accept_works
accepted_385 = refl

accepted_386 : accept_works (on_site 386) readings_a three ≡ Ok concentrations_a
unfolding steps shares_to shares_positive split_valid works_rules accept_works
accepted_386 = refl

-- an answer of a line of which no part is 0 is chosen for it as for any plant
line_chosen : (line : Plant) (a : Answer) → T (line_positive line) → LineChosen line concentrations_a a → ChosenAmong line concentrations_a (grid line) a
line_chosen line a = go (line_positive line)
  where
    go : (b : Bool) → T b → LineChosenBy b line concentrations_a a → ChosenAmong line concentrations_a (grid line) a
    go true t c = c
    go false t c = absurd t

-- a line's data, and a candidate that is permitted there
abbrev line_at : ℕ → ℕ → Plant
line_at surface i = line_of (on_site surface) three i

record Designed (surface i : ℕ) (y : Candidate) : Type 0 where
  positive : T (line_positive (line_at surface i))
  allowed : T (permitted (line_at surface i) concentrations_a y)

first_385 : Designed 385 0 (candidate 300 56 20)
unfolding steps shares_to line_part line_of line_positive
first_385 = record { positive = tt; allowed = tt }

second_385 : Designed 385 1 (candidate 300 55 21)
unfolding steps shares_to line_part line_of line_positive
second_385 = record { positive = tt; allowed = tt }

third_385 : Designed 385 2 (candidate 300 55 21)
unfolding steps shares_to line_part line_of line_positive
third_385 = record { positive = tt; allowed = tt }

first_386 : Designed 386 0 (candidate 300 56 20)
unfolding steps shares_to line_part line_of line_positive
first_386 = record { positive = tt; allowed = tt }

second_positive : T (line_positive (line_at 386 1))
unfolding steps shares_to line_part line_of line_positive
second_positive = tt

-- on the larger site the second line has 38 m2, and every settling tank needs 39
abbrev keeps_tank : ℕ → ℕ → Bool
keeps_tank r h = all_kept (tank_rules (line_at 386 1) (settling_of (line_at 386 1) r h))

no_tank_386 : tanks_passing TankFlow.Horizontal keeps_tank ≡ 0
unfolding steps shares_to line_part line_of
no_tank_386 = refl

-- a line with a permitted candidate has a design
designed : (surface i : ℕ) (y : Candidate) (a : Answer) → Designed surface i y → LineChosen (line_at surface i) concentrations_a a → (s : Sheet) × (a ≡ Ok s)
designed surface i y a d c =
    let s = design_chosen (line_at surface i) concentrations_a y a d.allowed (line_chosen (line_at surface i) a d.positive c) in
    (s.0, s.1)

second_386 : (a : Answer) → LineChosen (line_at 386 1) concentrations_a a → a ≡ Err Refusal.NoDesign
unfolding line_of case_a variant
second_386 a c =
    none_chosen (line_at 386 1) concentrations_a a
    (λ y t.
    let k = (permitted_keeps (line_at 386 1) concentrations_a y).0 t in
    no_tank_passes TankFlow.Horizontal keeps_tank no_tank_386 y k.grid k.tank)
    (line_chosen (line_at 386 1) a second_positive c)

-- the works on the smaller site: every line has a design
works_385 : (a : Result Works Refusal) → WorksOfLines (on_site 385) concentrations_a three a → (w : Works) × (a ≡ Ok w)
unfolding works_of works_by first_refused answer_verdict
works_385 a h =
    let first = designed 385 0 (candidate 300 56 20) (h.answers 0) first_385 (h.each 0 (omega arith)) in
    let second = designed 385 1 (candidate 300 55 21) (h.answers 1) second_385 (h.each 1 (omega arith)) in
    let third = designed 385 2 (candidate 300 55 21) (h.answers 2) third_385 (h.each 2 (omega arith)) in
    let kept : first_refused h.answers 3 ≡ Ok tt = rw (first.1, second.1, third.1) in
    (_, h.together ∙ ap (λ (v : Verdict). works_by v h.answers 3) kept)

-- and on the larger: 5, for the second
works_386 : (a : Result Works Refusal) → WorksOfLines (on_site 386) concentrations_a three a → a ≡ Err Refusal.NoDesign
unfolding works_of works_by first_refused answer_verdict
works_386 a h =
    let first = designed 386 0 (candidate 300 56 20) (h.answers 0) first_386 (h.each 0 (omega arith)) in
    let second = second_386 (h.answers 1) (h.each 1 (omega arith)) in
    let refused : first_refused h.answers 3 ≡ Err Refusal.NoDesign = rw (first.1, second) in
    h.together ∙ ap (λ (v : Verdict). works_by v h.answers 3) refused

-- Refuted: a looser limit of a works. Two works alike but for a square metre of the site: any answer for the smaller site is a design, and any
-- for the larger is 5.
pub larger_site_loses :
    (a b : Result Works Refusal) → WorksChosen (on_site 385) readings_a three a → WorksChosen (on_site 386) readings_a three b
    → ((w : Works) × (a ≡ Ok w)) × (b ≡ Err Refusal.NoDesign)
larger_site_loses a b c d = (
  works_385 a (subst (WorksAccepted (on_site 385) three a) accepted_385 c),
  works_386 b (subst (WorksAccepted (on_site 386) three b) accepted_386 d),
)
