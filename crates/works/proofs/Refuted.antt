-- Wrong programs for works in lines, each on data where it answers otherwise than the definitions, by computation. Assumes nothing.
use Prim.Native.Nat.{ℕ, zero, suc, ◌+◌, ◌*◌, ◌%◌, ◌^◌}
use mathlib.Core.Path.{◌≡◌, refl}
use mathlib.Core.Bool.{true, false}
use mathlib.Core.List.{List, [], ◌∷◌}
use borrow.Author.Tests.{eqb-false}
use Rattle.std.specs.Prelude.{Result, Ok, Err}
use Rattle.rules.specs.Rounding.{down}
use Rattle.rules.specs.Accepting.{values_of}
use Rattle.rules.specs.AgeNitrate.{safety_factor}
use Rattle.rules.specs.Examining.{sheet_of}
use Rattle.rules.specs.Answers.{answer_number}
use Rattle.rules.specs.Lines.{shares_to, shares_positive, split_valid, line_part, line_of, line_positive, line_rules, accept_line}
use Rattle.rules.specs.Works.{works_rules, accept_works, answer_verdict, first_refused, sums_of, line_sheet, no_sums, works_sheets, works_by, works_of}
use Rattle.rules.specs.WorksOutcome.{sheet_at}
use Rattle.rules.specs.Cases.{variant, case_a, concentrations_a, readings_a, f32, candidate}
use Rattle.rules.specs.declared.Plant.{Plant}
use Rattle.rules.specs.declared.Process.{Process}
use Rattle.rules.specs.declared.TankFlow.{TankFlow}
use Rattle.rules.specs.declared.Removal.{Removal}
use Rattle.rules.specs.declared.Reading.{Reading}
use Rattle.rules.specs.declared.Readings.{Readings}
use Rattle.rules.specs.declared.Split.{Split}
use Rattle.rules.specs.declared.Sheet.{Sheet}
use Rattle.rules.specs.declared.Works.{Works}
use Rattle.rules.specs.declared.Refusal.{Refusal}
use Rattle.rules.specs.Results.{Answer}
use Rattle.rules.proofs.Computing.{steps}
use Rattle.examining.proofs.WrongExaminers.{Differ}

-- a split into so many lines, with these shares
abbrev split_of : ℕ → List ℕ → Split
split_of count shares = record { count = count; shares = shares }

abbrev halves : Split
halves = split_of 2 (500 ∷ 500 ∷ [])

abbrev thirds : Split
thirds = split_of 3 (333 ∷ 333 ∷ 334 ∷ [])

-- a works whose daily flow is 0, and one with a site of 1 m2
abbrev dry : Plant
dry = variant 0 10_000 1_000 5_000 Process.PreAnoxic TankFlow.Horizontal Removal.Scraper

abbrev narrow : Plant
narrow = variant 5_000 10_000 1 5_000 Process.PreAnoxic TankFlow.Horizontal Removal.Scraper

-- 10,000 heads beside Case A's other readings
abbrev counted : Readings
counted =
    record {
      bod = Reading.Heads 10_000;
      cod = Reading.Measured (f32 200 1);
      solids = Reading.Measured (f32 150 1);
      nitrogen = Reading.Measured (f32 46 1);
      phosphorus = Reading.Measured (f32 8 1);
    }

-- Case A's sheets at two candidates, and answers of lines in order
abbrev sheet_with : ℕ → Sheet
sheet_with ratio = sheet_of case_a concentrations_a (candidate 300 ratio 20)

abbrev then : Answer → Answer → ℕ → Answer
then first second zero = first
then first second (suc i) = second

abbrev together : Answer → Answer → Result Works Refusal
together first second = works_of (then first second) 2

abbrev sheets_together : Answer → Answer → Works
sheets_together first second = works_sheets (together first second)

abbrev number_for : Plant → Split → ℕ
number_for p split = answer_number (accept_works p readings_a split)

abbrev number_of_line : ℕ → ℕ
number_of_line line = answer_number (accept_line case_a readings_a halves line)

pub record WrongWorks : Type 0 where
  -- it rounds each share alone: of 100 the third line would get 33, and one would be lost
  pub rounded_alone : Differ (line_part thirds 100 2) 34 (down (100 * 334) 1000)
  -- it accepts one line, nine lines, 999 or 1,001 thousandths, a share of 0, or shares that only wrap to 1,000 in 32 bits
  pub one_line : split_valid (split_of 1 (1_000 ∷ [])) ≡ false
  pub nine_lines : split_valid (split_of 9 (111 ∷ 111 ∷ 111 ∷ 111 ∷ 111 ∷ 111 ∷ 111 ∷ 223 ∷ [])) ≡ false
  pub thousandth_short : split_valid (split_of 2 (500 ∷ 499 ∷ [])) ≡ false
  pub thousandth_over : split_valid (split_of 2 (500 ∷ 501 ∷ [])) ≡ false
  pub share_of_0 : split_valid (split_of 3 (500 ∷ 500 ∷ 0 ∷ [])) ≡ false
  pub wrapped : (split_valid (split_of 2 (4_294_967_295 ∷ 1_001 ∷ [])) ≡ false) × ((4_294_967_295 + 1_001) % 2 ^ 32 ≡ 1_000)
  -- it looks at entries past the number of lines
  pub past_the_count : split_valid (split_of 2 (500 ∷ 500 ∷ 7 ∷ [])) ≡ true
  -- it asks 18 after 1
  pub lines_after_data : Differ (number_for dry (split_of 1 (1_000 ∷ []))) 18 (number_for dry halves)
  -- it takes the smallest refusal, or the last, for that of the first refused line
  pub smallest_refusal : Differ (answer_number (together (Err Refusal.NoDesign) (Err Refusal.PlantData))) 5 1
  pub last_refusal : Differ (answer_number (together (Err Refusal.PlantData) (Err Refusal.NoDesign))) 1 5
  -- it gives the sums, or the sheets, of a refused works
  pub sums_of_refused : Differ (sheets_together (Ok (sheet_with 75)) (Err Refusal.NoDesign)).sums.total 0 (sheet_with 75).total
  pub sheets_of_refused : Differ (sheet_at (sheets_together (Ok (sheet_with 75)) (Err Refusal.NoDesign)) 0).total 0 (sheet_with 75).total
  -- it gives the lines in another order
  pub other_order : Differ (sheet_at (sheets_together (Ok (sheet_with 75)) (Ok (sheet_with 50))) 0).return_ratio 75 50
  -- it turns head counts on the line's own flow
  pub heads_on_line : Differ (values_of case_a counted).bod 120_000 (values_of (line_of case_a halves 0) counted).bod
  -- it takes the safety factor of the line's share of the load
  pub load_kept : (p : Plant) (split : Split) (i : ℕ) → (line_of p split i).load ≡ p.load
  pub factor_of_share : Differ (safety_factor 6_000) 145 (safety_factor (down (6_000 * 500) 1000))
  -- it chooses for a line whose surface comes out 0
  pub no_surface : (line_positive (line_of narrow halves 0) ≡ false) × (line_positive (line_of narrow halves 1) ≡ true)
  -- it answers for a line that the works does not have
  pub line_0 : number_of_line 0 ≡ 18
  pub third_of_two : (number_of_line 2 ≡ 0) × (number_of_line 3 ≡ 18)

pub wrong_works : WrongWorks
unfolding
    steps
    shares_to
    shares_positive
    split_valid
    line_part
    line_of
    line_positive
    line_rules
    accept_line
    works_rules
    accept_works
    answer_verdict
    first_refused
    sums_of
    line_sheet
    no_sums
    works_sheets
    works_by
    works_of
    answer_number
wrong_works =
    record {
      rounded_alone = (refl, eqb-false _ _ refl);
      one_line = refl;
      nine_lines = refl;
      thousandth_short = refl;
      thousandth_over = refl;
      share_of_0 = refl;
      wrapped = (refl, refl);
      past_the_count = refl;
      lines_after_data = (refl, eqb-false _ _ refl);
      smallest_refusal = (refl, eqb-false _ _ refl);
      last_refusal = (refl, eqb-false _ _ refl);
      sums_of_refused = (refl, eqb-false _ _ refl);
      sheets_of_refused = (refl, eqb-false _ _ refl);
      other_order = (refl, eqb-false _ _ refl);
      heads_on_line = (refl, eqb-false _ _ refl);
      load_kept = λ p split i. refl;
      factor_of_share = (refl, eqb-false _ _ refl);
      no_surface = (refl, refl);
      line_0 = refl;
      third_of_two = (refl, refl);
    }
