-- Wrong answers on existing tanks that the definitions shut out, on Case A's plant data, by computation: every return ratio of the grid at
-- the indices named. Assumes nothing.
use mathlib.Core.Logic.{◌⊎◌, inl, inr}
use mathlib.Core.Path.{◌≡◌, refl, ap, sym, subst}
use mathlib.Core.Bool.{Bool, true, false, ◌&&◌, ◌||◌}
use Prim.Native.Nat.{ℕ, zero, suc, ◌+◌, ◌≤◌, ◌<◌}
use native.Mathlib.Nat.{eq-or-lt_of_le}
use native.Mathlib.Omega.{arith}
use lib.Dec.{T}
use lib.Ieee.Fits.{and_i, and_l}
use Rattle.std.specs.Prelude.{Result, Ok, Err, Option, Some, None}
use Rattle.rules.specs.AgeNitrate.{largest_return_ratio}
use Rattle.rules.specs.Answers.{refusal_number}
use Rattle.rules.specs.Examining.{sheet_of, permitted}
use Rattle.rules.specs.OtherSteps.{with_index}
use Rattle.rules.specs.Existing.{operated, fits_existing, wins, CanBeWon, HoldsAtEach, span_valid, sizes_positive, operated_on_grid, built_rules, accept_built, HeldOrLost, BuiltAnswered}
use Rattle.rules.specs.Cases.{variant, case_a, readings_a, concentrations_a}
use Rattle.rules.specs.declared.Plant.{Plant}
use Rattle.rules.specs.declared.Process.{Process}
use Rattle.rules.specs.declared.TankFlow.{TankFlow}
use Rattle.rules.specs.declared.Removal.{Removal}
use Rattle.rules.specs.declared.Concentrations.{Concentrations}
use Rattle.rules.specs.declared.Existing.{Existing}
use Rattle.rules.specs.declared.IndexSpan.{IndexSpan}
use Rattle.rules.specs.declared.Refusal.{Refusal}
use Rattle.rules.proofs.Computing.{steps}
use Rattle.rules.proofs.RangeFacts.{grid_ranges}
use Rattle.rules.proofs.Examined.{permitted_keeps}

-- a test holds of one of n numbers
abbrev some_from : (ℕ → Bool) → ℕ → ℕ → Bool
some_from test first zero = false
some_from test first (suc n) = test first || some_from test (first + 1) n

none_from : (test : ℕ → Bool) (first n : ℕ) → some_from test first n ≡ false → (k : ℕ) → first ≤ k → k < first + n → T (test k) → ⊥
none_from test first zero e k least less t = absurd (omega (arith, least, less))
none_from test first (suc n) e k least less t =
    go (test first) refl e (eq-or-lt_of_le least) (λ rest above. none_from test (first + 1) n rest k above (omega (arith, less)) t)
  where
    go : (b : Bool) → test first ≡ b → (b || some_from test (first + 1) n) ≡ false → (first ≡ k) ⊎ (first < k) → (some_from test (first + 1) n ≡ false → first + 1 ≤ k → ⊥) → ⊥
    go true here e at rest = absurd (subst T e tt)
    go false here e (inl same) rest = subst T here (subst (λ (i : ℕ). T (test i)) (sym same) t)
    go false here e (inr above) rest = rest e (omega (arith, above))

-- a ratio that wins is one of the grid
won_on_grid : (p : Plant) (x : Concentrations) (e : Existing) (index ratio : ℕ) → T (wins p x e index ratio) → (30 ≤ ratio) × (ratio ≤ largest_return_ratio p.tank)
unfolding wins with_index
won_on_grid p x e index ratio t =
    let q = with_index index p in
    let keeps = (permitted_keeps q x (operated e ratio)).0 (and_l (permitted q x (operated e ratio)) (fits_existing e (sheet_of q x (operated e ratio))) t) in
    let ranges = (grid_ranges q.tank (operated e ratio)).0 keeps.grid in
    (ranges.ratio.least, ranges.ratio.most)

-- so an index of a horizontal tank's plant that none of 46 ratios wins is lost
lost_by_46 : (p : Plant) (x : Concentrations) (e : Existing) (index : ℕ) → largest_return_ratio p.tank ≡ 75 → some_from (wins p x e index) 30 46 ≡ false → CanBeWon p x e index → ⊥
lost_by_46 p x e index most none (ratio, t) =
    let grid = won_on_grid p x e index ratio t in
    none_from (wins p x e index) 30 46 none ratio grid.0 (omega (arith, grid.1, most)) t

-- tanks of Case A, with its fraction and thickening time, and a span
abbrev tanks : ℕ → ℕ → ℕ → Existing
tanks reactor surface depth = record { reactor = reactor; surface = surface; depth = depth; fraction = 300; thickening = 20 }

abbrev span : ℕ → ℕ → IndexSpan
span least most = record { least = least; most = most }

abbrev wins_a : Existing → ℕ → ℕ → Bool
wins_a e index ratio = wins case_a concentrations_a e index ratio

abbrev WonA : Existing → ℕ → Type 0
WonA e index = CanBeWon case_a concentrations_a e index

-- another fraction than Case A's, with every size large; Case A on a smaller site, with a vertical tank on a deep site, and without flow
abbrev uncovered_at : ℕ → Existing
uncovered_at fraction = record { reactor = 100_000; surface = 1_000; depth = 5_000; fraction = fraction; thickening = 20 }

abbrev small_site : Plant
small_site = variant 5_000 10_000 375 5_000 Process.PreAnoxic TankFlow.Horizontal Removal.Scraper

abbrev vertical_a : Plant
vertical_a = variant 5_000 10_000 1_000 10_000 Process.PreAnoxic TankFlow.Vertical Removal.Scraper

abbrev no_flow : Plant
no_flow = variant 0 10_000 1_000 5_000 Process.PreAnoxic TankFlow.Horizontal Removal.Scraper

-- a refusal is no other
other : (m n : Refusal) → (m ≡ n → ⊥) → ◌≡◌ {A = Result (Option ℕ) Refusal} (Err m) (Err n) → ⊥
other m n apart e = apart cc

-- what each of the tanks named below wins: the ratio, or that none of 46 does
record Computed : Type 0 where
  moody_99 : wins_a (tanks 3_980 375 4_012) 99 50 ≡ true
  moody_100 : some_from (wins_a (tanks 3_980 375 4_012) 100) 30 46 ≡ false
  moody_101 : wins_a (tanks 3_980 375 4_012) 101 51 ≡ true
  each_99 : wins_a (tanks 4_120 375 3_846) 99 47 ≡ true
  each_100 : wins_a (tanks 4_120 375 3_846) 100 48 ≡ true
  each_both : some_from (λ r. wins_a (tanks 4_120 375 3_846) 99 r && wins_a (tanks 4_120 375 3_846) 100 r) 30 46 ≡ false
  two_99 : some_from (wins_a (tanks 4_103 375 3_846) 99) 30 46 ≡ false
  two_100 : wins_a (tanks 4_103 375 3_846) 100 48 ≡ true
  two_101 : some_from (wins_a (tanks 4_103 375 3_846) 101) 30 46 ≡ false
  met : wins_a (tanks 3_750 376 4_230) 100 55 ≡ true
  reactor_missed : some_from (wins_a (tanks 3_749 376 4_230) 100) 30 46 ≡ false
  surface_missed : some_from (wins_a (tanks 3_750 375 4_230) 100) 30 46 ≡ false
  depth_missed : some_from (wins_a (tanks 3_750 376 4_229) 100) 30 46 ≡ false
  above_site : wins_a (tanks 3_750 1_001 4_230) 100 55 ≡ true
  small_site_lem : some_from (wins small_site concentrations_a (tanks 3_750 376 4_230) 100) 30 46 ≡ false
  uncovered : some_from (wins_a (uncovered_at 299) 100) 30 46 ≡ false
  vertical : wins vertical_a concentrations_a (tanks 3_082 352 5_772) 100 76 ≡ true

computed : Computed
unfolding steps with_index wins fits_existing
computed =
    record {
      moody_99 = refl;
      moody_100 = refl;
      moody_101 = refl;
      each_99 = refl;
      each_100 = refl;
      each_both = refl;
      two_99 = refl;
      two_100 = refl;
      two_101 = refl;
      met = refl;
      reactor_missed = refl;
      surface_missed = refl;
      depth_missed = refl;
      above_site = refl;
      small_site_lem = refl;
      uncovered = refl;
      vertical = refl;
    }

-- a ratio that wins, as a fact; an index that Case A's plant loses
won : (p : Plant) (e : Existing) (index ratio : ℕ) → wins p concentrations_a e index ratio ≡ true → CanBeWon p concentrations_a e index
won p e index ratio h = (ratio, subst T (sym h) tt)

lost_a : (e : Existing) (index : ℕ) → some_from (wins_a e index) 30 46 ≡ false → WonA e index → ⊥
unfolding steps
lost_a e index none = lost_by_46 case_a concentrations_a e index refl none

-- Winning is not monotone in the index: with these tanks 99 and 101 can be won, and 100 cannot.
pub not_monotone : WonA (tanks 3_980 375 4_012) 99 × (WonA (tanks 3_980 375 4_012) 100 → ⊥) × WonA (tanks 3_980 375 4_012) 101
not_monotone = (
  won case_a (tanks 3_980 375 4_012) 99 50 computed.moody_99,
  lost_a (tanks 3_980 375 4_012) 100 computed.moody_100,
  won case_a (tanks 3_980 375 4_012) 101 51 computed.moody_101,
)

-- Each of two indices can be won, and no one return ratio wins both.
pub each_by_its_own : HoldsAtEach case_a concentrations_a (tanks 4_120 375 3_846) (span 99 100) × ((r : ℕ) → T (wins_a (tanks 4_120 375 3_846) 99 r) → T (wins_a (tanks 4_120 375 3_846) 100 r) → ⊥)
unfolding steps
each_by_its_own = (λ i within. at i (eq-or-lt_of_le within.0) within, both)
  where
    e : Existing
    e = tanks 4_120 375 3_846

    at : (i : ℕ) → (99 ≡ i) ⊎ (99 < i) → (99 ≤ i) × (i ≤ 100) → WonA e i
    at i (inl same) within = subst (WonA e) same (won case_a e 99 47 computed.each_99)
    at i (inr above) within = subst (WonA e) (omega (arith, above, within)) (won case_a e 100 48 computed.each_100)

    both : (r : ℕ) → T (wins_a e 99 r) → T (wins_a e 100 r) → ⊥
    both r a b =
        let grid = won_on_grid case_a concentrations_a e 99 r a in
        none_from (λ k. wins_a e 99 k && wins_a e 100 k) 30 46 computed.each_both r grid.0 (omega (arith, grid.1)) (and_i (wins_a e 99 r) (wins_a e 100 r) a b)

abbrev AnswerA : Existing → IndexSpan → Result (Option ℕ) Refusal → Type 0
AnswerA e s a = HeldOrLost case_a concentrations_a e s a

-- The wrong answers, each to accepted data and an f and h of the grid but for the last three.
pub record WrongTanks : Type 0 where
  -- only the ends of the span tried: both are won
  pub ends_only : AnswerA (tanks 3_980 375 4_012) (span 99 101) (Ok None) → ⊥
  -- one return ratio asked for the whole span: none wins both indices, and each is won
  pub one_ratio : (i : ℕ) → AnswerA (tanks 4_120 375 3_846) (span 99 100) (Ok (Some i)) → ⊥
  -- the largest index lost
  pub largest_lost : AnswerA (tanks 4_103 375 3_846) (span 99 101) (Ok (Some 101)) → ⊥
  -- the built surface compared with the site's: it is smaller, and too small; it is larger, and enough
  pub site_for_need : AnswerA (tanks 3_750 375 4_230) (span 100 100) (Ok None) → ⊥
  pub above_site : AnswerA (tanks 3_750 1_001 4_230) (span 100 100) (Ok (Some 100)) → ⊥
  -- the plant's own index, 100, used: it is won and 101 is lost; it is lost and 101 is won
  pub own_index_won : AnswerA (tanks 4_103 375 3_846) (span 101 101) (Ok None) → ⊥
  pub own_index_lost : AnswerA (tanks 3_980 375 4_012) (span 101 101) (Ok (Some 101)) → ⊥
  -- a size that is just built, and the reactor or the depth not compared
  pub just_met : AnswerA (tanks 3_750 376 4_230) (span 100 100) (Ok (Some 100)) → ⊥
  pub reactor_left_out : AnswerA (tanks 3_749 376 4_230) (span 100 100) (Ok None) → ⊥
  pub depth_left_out : AnswerA (tanks 3_750 376 4_229) (span 100 100) (Ok None) → ⊥
  -- the site's limit left out, and the cover
  pub no_site : HeldOrLost small_site concentrations_a (tanks 3_750 376 4_230) (span 100 100) (Ok None) → ⊥
  pub no_cover : AnswerA (uncovered_at 299) (span 100 100) (Ok None) → ⊥
  -- return ratios up to 75 in vertical flow
  pub vertical_to_75 : HeldOrLost vertical_a concentrations_a (tanks 3_082 352 5_772) (span 100 100) (Ok (Some 100)) → ⊥
  -- 21 before 20; 1 before 21; 6 before 1
  pub size_before_span : BuiltAnswered case_a readings_a (tanks 0 1 1) (span 51 50) (Err Refusal.BuiltSize) → ⊥
  pub data_before_size : BuiltAnswered no_flow readings_a (tanks 1 1 0) (span 50 180) (Err Refusal.PlantData) → ⊥
  pub grid_before_data : BuiltAnswered no_flow readings_a (uncovered_at 199) (span 50 180) (Err Refusal.OffGrid) → ⊥

pub wrong_tanks : WrongTanks
unfolding steps span_valid sizes_positive operated_on_grid built_rules accept_built
wrong_tanks =
    record {
      ends_only = λ h. lost_a (tanks 3_980 375 4_012) 100 computed.moody_100 (h 100 (omega arith, omega arith));
      one_ratio = λ i h. h.lost (each_by_its_own.0 i h.member);
      largest_lost = λ h. lost_a (tanks 4_103 375 3_846) 99 computed.two_99 (h.smaller 99 (omega arith, omega arith) (omega arith));
      site_for_need = λ h. lost_a (tanks 3_750 375 4_230) 100 computed.surface_missed (h 100 (omega arith, omega arith));
      above_site = λ h. h.lost (won case_a (tanks 3_750 1_001 4_230) 100 55 computed.above_site);
      own_index_won = λ h. lost_a (tanks 4_103 375 3_846) 101 computed.two_101 (h 101 (omega arith, omega arith));
      own_index_lost = λ h. h.lost (won case_a (tanks 3_980 375 4_012) 101 51 computed.moody_101);
      just_met = λ h. h.lost (won case_a (tanks 3_750 376 4_230) 100 55 computed.met);
      reactor_left_out = λ h. lost_a (tanks 3_749 376 4_230) 100 computed.reactor_missed (h 100 (omega arith, omega arith));
      depth_left_out = λ h. lost_a (tanks 3_750 376 4_229) 100 computed.depth_missed (h 100 (omega arith, omega arith));
      no_site = λ h. lost_by_46 small_site concentrations_a (tanks 3_750 376 4_230) 100 refl computed.small_site_lem (h 100 (omega arith, omega arith));
      no_cover = λ h. lost_a (uncovered_at 299) 100 computed.uncovered (h 100 (omega arith, omega arith));
      vertical_to_75 = λ h. h.lost (won vertical_a (tanks 3_082 352 5_772) 100 76 computed.vertical);
      size_before_span = λ h. other Refusal.BuiltSize Refusal.Span (λ e. omega (arith, ap refusal_number e)) h;
      data_before_size = λ h. other Refusal.PlantData Refusal.BuiltSize (λ e. omega (arith, ap refusal_number e)) h;
      grid_before_data = λ h. other Refusal.OffGrid Refusal.PlantData (λ e. omega (arith, ap refusal_number e)) h;
    }
