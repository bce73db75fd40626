-- Laws of a works' lines: running sums of shares grow to 1,000, so that a line's parts are at most the whole and add up to it; a line
-- is in one plant's ranges exactly where none of its parts is 0; equal shares give equal lines; a line has one answer. Assumes nothing.
use mathlib.Core.Logic.{◌↔◌}
use mathlib.Core.Path.{◌≡◌, refl, sym, ap, subst, ◌∙◌}
use mathlib.Core.Bool.{Bool, true, false, ◌&&◌}
use Prim.Native.Nat.{ℕ, zero, suc, ◌+◌, ◌-◌, ◌*◌, ◌≤◌, ◌<◌}
use native.Mathlib.Nat.{mul-le-mul_left}
use native.Mathlib.Numerals.{add-one}
use native.Mathlib.Omega.{arith}
use borrow.Author.Tests.{eqb-true}
use lib.Dec.{T, leb, eqb, leb→le, le→leb}
use lib.Ieee.Fits.{and_i, and_l, and_r}
use Rattle.std.specs.Prelude.{Ok}
use denote.Floats.{is_true}
use Rattle.rules.specs.Rounding.{down}
use Rattle.rules.specs.Sums.{sum_from}
use Rattle.rules.specs.Limits.{most_lines}
use Rattle.rules.specs.PlantData.{within, figures_without_dose, plant_figures, plant_in_range}
use Rattle.rules.specs.Ranges.{Between, PlantRanges}
use Rattle.rules.specs.Accepting.{accept}
use Rattle.rules.specs.Choosing.{grid, ChosenAmong, Chosen}
use Rattle.rules.specs.Lines.{share, shares_to, shares_positive, split_valid, line_part, line_of, line_positive, LineChosenBy, LineChosen}
use Rattle.rules.specs.declared.Plant.{Plant}
use Rattle.rules.specs.declared.Readings.{Readings}
use Rattle.rules.specs.declared.Concentrations.{Concentrations}
use Rattle.rules.specs.declared.Split.{Split}
use Rattle.rules.specs.Results.{Answer}
use Rattle.rules.proofs.SumLaws.{sum_step, sum_grown, sum_same, sum_constant}
use Rattle.rules.proofs.Tests.{within_between, all_between, between_all}
use Rattle.rules.proofs.AcceptedData.{accepted_ranges}
use Rattle.rules.proofs.OtherAnswers.{same_test}
use Rattle.rules.proofs.ChosenOnce.{chosen_among_once}

-- one line more
pub shares_step : (split : Split) (n : ℕ) → shares_to split (n + 1) ≡ shares_to split n + share split n
unfolding shares_to
shares_step split n = sym (sum_grown (share split) n (sum_from 0 n (share split)) (share split n) refl refl)

shares_later : (split : Split) (n k : ℕ) → shares_to split n ≤ shares_to split (n + k)
shares_later split n zero = let e : n + 0 ≡ n = omega arith in rw e (omega arith)
shares_later split n (suc k) = let e : n + suc k ≡ n + k + 1 = omega arith in rw e (omega (arith, shares_later split n k, shares_step split (n + k)))

-- running sums grow
pub shares_grow : (split : Split) (m n : ℕ) → m ≤ n → shares_to split m ≤ shares_to split n
shares_grow split m n h = let e : m + (n - m) ≡ n = omega arith in subst (λ (k : ℕ). shares_to split m ≤ shares_to split k) e (shares_later split m (n - m))

-- what a valid split says
pub record ValidSplit (split : Split) : Type 0 where
  pub lines : Between 2 most_lines split.count
  pub positive : T (shares_positive split.shares split.count)
  pub whole : shares_to split split.count ≡ 1000

pub valid_split : (split : Split) → T (split_valid split) → ValidSplit split
unfolding split_valid
valid_split split t =
    let counted = within 2 most_lines split.count in
    let positive = shares_positive split.shares split.count in
    let added = eqb (shares_to split split.count) 1000 in
    let rest : T (positive && added) = and_r counted (positive && added) t in
    record {
      lines = (within_between 2 most_lines split.count).0 (and_l counted (positive && added) t);
      positive = and_l positive added rest;
      whole = eqb-true (shares_to split split.count) 1000 (is_true added (and_r positive added rest));
    }

module _ (split : Split) (valid : T (split_valid split)) where
  -- up to the last line at most the whole
  pub shares_most : (n : ℕ) → n ≤ split.count → shares_to split n ≤ 1000
  shares_most n h = let v = valid_split split valid in omega (arith, shares_grow split n split.count h, v.whole)

  -- a line's part is at most the whole
  pub part_most : (whole i : ℕ) → i < split.count → line_part split whole i ≤ whole
  unfolding line_part
  part_most whole i h =
      let m : shares_to split (i + 1) ≤ 1000 = shares_most (i + 1) (omega arith) in
      omega (arith, mul-le-mul_left whole m)

  -- the parts of the first n lines, one line more
  parts_next : (whole n : ℕ) → sum_from 0 n (line_part split whole) ≡ down (whole * shares_to split n) 1000 → sum_from 0 (n + 1) (line_part split whole) ≡ down (whole * shares_to split (n + 1)) 1000
  unfolding line_part
  parts_next whole n e =
      let here : 0 + n ≡ n = omega arith in
      let grow : shares_to split n ≤ shares_to split (n + 1) = shares_grow split n (n + 1) (omega arith) in
      sum_step 0 n (line_part split whole) ∙ rw here (omega (arith, mul-le-mul_left whole grow))

  parts_to : (whole n : ℕ) → sum_from 0 n (line_part split whole) ≡ down (whole * shares_to split n) 1000
  unfolding sum_from shares_to
  parts_to whole zero = omega arith
  parts_to whole (suc n) =
      subst (λ (k : ℕ). sum_from 0 k (line_part split whole) ≡ down (whole * shares_to split k) 1000) (add-one n) (parts_next whole n (parts_to whole n))

-- The lines' parts add up to the whole: of the daily flow, of the wet weather flow and of the site's surface alike.
pub parts_add_up : (split : Split) → T (split_valid split) → (whole : ℕ) → sum_from 0 split.count (line_part split whole) ≡ whole
parts_add_up split valid whole =
    let v = valid_split split valid in
    parts_to split valid whole split.count ∙ (ap (λ (n : ℕ). down (whole * n) 1000) v.whole ∙ omega arith)

-- a line's three parts where none is 0, and the other way round
positive_parts : (line : Plant) → T (line_positive line) → (1 ≤ line.flow) × (1 ≤ line.wet_weather_flow) × (1 ≤ line.site_surface)
unfolding line_positive
positive_parts line t =
    let flow = leb 1 line.flow in
    let wet = leb 1 line.wet_weather_flow in
    let surface = leb 1 line.site_surface in
    let rest = and_r flow (wet && surface) t in
    (leb→le 1 line.flow (and_l flow (wet && surface) t), leb→le 1 line.wet_weather_flow (and_l wet surface rest), leb→le 1 line.site_surface (and_r wet surface rest))

parts_positive : (line : Plant) → (1 ≤ line.flow) × (1 ≤ line.wet_weather_flow) × (1 ≤ line.site_surface) → T (line_positive line)
unfolding line_positive
parts_positive line h =
    let wet = leb 1 line.wet_weather_flow in
    let surface = leb 1 line.site_surface in
    and_i (leb 1 line.flow) (wet && surface) (le→leb 1 line.flow h.0)
    (and_i wet surface (le→leb 1 line.wet_weather_flow h.1) (le→leb 1 line.site_surface h.2))

module _ (p : Plant) (split : Split) (i : ℕ) (valid : T (split_valid split)) (below : i < split.count) where
  -- a line of a works in range, where none of its parts is 0
  pub line_ranges : PlantRanges p → T (line_positive (line_of p split i)) → PlantRanges (line_of p split i)
  unfolding line_of
  line_ranges b t =
      let h = positive_parts (line_of p split i) t in
      record {
        load = b.load;
        flow = record { least = h.0; most = omega (arith, b.flow, part_most split valid p.flow i below) };
        wet = record { least = h.1; most = omega (arith, b.wet, part_most split valid p.wet_weather_flow i below) };
        design = b.design;
        aeration = b.aeration;
        index = b.index;
        nitrate = b.nitrate;
        phosphorus = b.phosphorus;
        carbon_peak = b.carbon_peak;
        nitrogen_peak = b.nitrogen_peak;
        saturation = b.saturation;
        surface = record { least = h.2; most = omega (arith, b.surface, part_most split valid p.site_surface i below) };
        depth = b.depth;
        dose = b.dose;
        consent = b.consent;
      }

-- A line's figures are in one plant's ranges exactly where none of its daily flow, wet weather flow and surface is 0.
pub line_in_range :
    (p : Plant) (split : Split) (i : ℕ)
    → T (split_valid split)
    → i < split.count
    → T (plant_in_range p)
    → plant_in_range (line_of p split i) ≡ line_positive (line_of p split i)
unfolding plant_in_range plant_figures figures_without_dose line_of
line_in_range p split i valid below t =
    let line = line_of p split i in
    let b = all_between (plant_figures p) t in
    same_test (plant_in_range line) (line_positive line) (
      λ s.
          let l = all_between (plant_figures line) s in
          parts_positive line (l.1.0.least, l.1.1.0.least, l.1.1.1.1.1.1.1.1.1.1.1.0.least),
      λ s.
          let h = positive_parts line s in
          between_all (plant_figures line) (
            b.0,
            (
              record { least = h.0; most = omega (arith, b.1.0, part_most split valid p.flow i below) },
              (
                record { least = h.1; most = omega (arith, b.1.1.0, part_most split valid p.wet_weather_flow i below) },
                (
                  b.1.1.1.0,
                  (
                    b.1.1.1.1.0,
                    (
                      b.1.1.1.1.1.0,
                      (
                        b.1.1.1.1.1.1.0,
                        (
                          b.1.1.1.1.1.1.1.0,
                          (
                            b.1.1.1.1.1.1.1.1.0,
                            (
                              b.1.1.1.1.1.1.1.1.1.0,
                              (
                                b.1.1.1.1.1.1.1.1.1.1.0,
                                (
                                  record { least = h.2; most = omega (arith, b.1.1.1.1.1.1.1.1.1.1.1.0, part_most split valid p.site_surface i below) },
                                  b.1.1.1.1.1.1.1.1.1.1.1.1,
                                ),
                              ),
                            ),
                          ),
                        ),
                      ),
                    ),
                  ),
                ),
              ),
            ),
          ),
    )

-- A line is a plant of its own: with readings that come to the works' concentrations, choosing for it as for any plant gives its
-- answer.
pub line_as_plant :
    (line : Plant) (r : Readings) (x : Concentrations) (a : Answer)
    → accept line r ≡ Ok x
    → LineChosen line x a ↔ Chosen line r a
line_as_plant line r x a e =
    let ranges = (accepted_ranges line r x e).0 in
    let positive = parts_positive line (ranges.flow.least, ranges.wet.least, ranges.surface.least) in
    rw e (go (line_positive line) positive)
  where
    go : (b : Bool) → T b → LineChosenBy b line x a ↔ ChosenAmong line x (grid line) a
    go true t = (λ h. h, λ h. h)
    go false t = absurd t

-- running sums of equal shares
equal_shares_to : (split : Split) (s n : ℕ) → ((k : ℕ) → k < n → share split k ≡ s) → shares_to split n ≡ n * s
unfolding shares_to
equal_shares_to split s n each = sum_same 0 n (share split) (λ k. s) (λ k l m. each k (omega arith)) ∙ sum_constant 0 n s

-- equal shares of an amount that they divide are equal parts
pub equal_parts :
    (split : Split) (s whole part : ℕ)
    → ((k : ℕ) → k < split.count → share split k ≡ s)
    → whole * s ≡ 1000 * part
    → (i : ℕ) → i < split.count → line_part split whole i ≡ part
unfolding line_part
equal_parts split s whole part each divided i below =
    let before : shares_to split i ≡ i * s = equal_shares_to split s i (λ k m. each k (omega arith)) in
    let to : shares_to split (i + 1) ≡ (i + 1) * s = equal_shares_to split s (i + 1) (λ k m. each k (omega arith)) in
    let times : i * (whole * s) ≡ i * (1000 * part) = ap (λ (v : ℕ). i * v) divided in
    rw (before, to) (omega arith)

-- Equal shares of a works whose flows and surface they divide give equal lines: any two are the same plant.
pub equal_lines :
    (p : Plant) (split : Split) (s flow wet surface : ℕ)
    → ((k : ℕ) → k < split.count → share split k ≡ s)
    → p.flow * s ≡ 1000 * flow
    → p.wet_weather_flow * s ≡ 1000 * wet
    → p.site_surface * s ≡ 1000 * surface
    → (i j : ℕ) → i < split.count → j < split.count → line_of p split i ≡ line_of p split j
unfolding line_of
equal_lines p split s flow wet surface each f w a i j hi hj =
    let same : (whole part : ℕ) → whole * s ≡ 1000 * part → line_part split whole i ≡ line_part split whole j =
    λ whole part e. equal_parts split s whole part each e i hi ∙ sym (equal_parts split s whole part each e j hj) in
    rw (same p.flow flow f, same p.wet_weather_flow wet w, same p.site_surface surface a)

-- A line has one answer.
pub line_once : (line : Plant) (x : Concentrations) (a b : Answer) → LineChosen line x a → LineChosen line x b → a ≡ b
line_once line x a b = go (line_positive line)
  where
    go : (positive : Bool) → LineChosenBy positive line x a → LineChosenBy positive line x b → a ≡ b
    go true c d = chosen_among_once line x (grid line) a b c d
    go false c d = c ∙ sym d
