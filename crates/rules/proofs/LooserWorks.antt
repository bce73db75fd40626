-- Of a works in lines a looser limit holds where its parts are not rounded: with a higher nitrate target or a larger depth, and all else the
-- same, a works that has its sheets has them still, with no larger total, line by line. Assumes nothing.
use mathlib.Core.Path.{◌≡◌, refl, sym, ap, subst, ◌∙◌}
use mathlib.Core.Bool.{Bool, true, false}
use Prim.Native.Nat.{ℕ, zero, suc, ◌+◌, ◌≤◌, ◌<◌}
use native.Mathlib.Omega.{arith}
use lib.Dec.{T}
use lib.Ieee.Fits.{and_i, and_l}
use Rattle.std.specs.Prelude.{Ok, Err, Result}
use Rattle.rules.specs.Sums.{sum_from}
use Rattle.rules.specs.Rules.{all_kept}
use Rattle.rules.specs.Accepting.{values_of, data_rules, accept_by}
use Rattle.rules.specs.Answers.{answer_sheet}
use Rattle.rules.specs.Lines.{split_valid, line_of, line_positive, LineChosenBy, LineChosen}
use Rattle.rules.specs.Works.{works_rules, accept_works, answer_verdict, first_refused, sums_of, works_sheets, works_by, works_of, WorksOfLines, WorksAccepted, WorksChosen}
use Rattle.rules.specs.LooserLimits.{Unsplit, Limit, limit_of, with_limit, AlikeBut, NoLarger}
use Rattle.rules.specs.declared.Plant.{Plant}
use Rattle.rules.specs.declared.Readings.{Readings}
use Rattle.rules.specs.declared.Concentrations.{Concentrations}
use Rattle.rules.specs.declared.Split.{Split}
use Rattle.rules.specs.declared.Works.{Works}
use Rattle.rules.specs.declared.Refusal.{Refusal}
use Rattle.rules.specs.Results.{Answer, Acceptance, Verdict}
use Rattle.rules.proofs.SumLaws.{sum_grown}
use Rattle.rules.proofs.RuleLists.{all_kept_verdict}
use Rattle.rules.proofs.AcceptedData.{accepted_kept}
use Rattle.rules.proofs.WorksLaws.{kept_parts, all_designed}
use Rattle.rules.proofs.WorksOutcomes.{designed_answer}
use Rattle.rules.proofs.LooserLimits.{looser_values, looser_among}

-- the lines of two works that are alike but for such a limit are alike but for it, and so are the parts that must not be 0
line_with : (limit : Limit) → Unsplit limit → (p : Plant) (split : Split) (i n : ℕ) → line_of (with_limit limit n p) split i ≡ with_limit limit n (line_of p split i)
unfolding with_limit line_of
line_with limit Unsplit.target p split i n = refl
line_with limit Unsplit.depth p split i n = refl

line_limit : (limit : Limit) → Unsplit limit → (p : Plant) (split : Split) (i : ℕ) → limit_of limit (line_of p split i) ≡ limit_of limit p
unfolding limit_of line_of
line_limit limit Unsplit.target p split i = refl
line_limit limit Unsplit.depth p split i = refl

line_alike : (limit : Limit) → Unsplit limit → (p q : Plant) (split : Split) (i : ℕ) → AlikeBut limit p q → AlikeBut limit (line_of p split i) (line_of q split i)
line_alike limit u p q split i a =
    record {
      all_else =
          ap (λ (z : Plant). line_of z split i) a.all_else
          ∙ (line_with limit u p split i (limit_of limit q)
          ∙ ap (λ (n : ℕ). with_limit limit n (line_of p split i)) (sym (line_limit limit u q split i)));
      looser = rw (line_limit limit u p split i, line_limit limit u q split i) a.looser;
    }

same_parts : (limit : Limit) → Unsplit limit → (p : Plant) (n : ℕ) → line_positive (with_limit limit n p) ≡ line_positive p
unfolding with_limit line_positive
same_parts limit Unsplit.target p n = refl
same_parts limit Unsplit.depth p n = refl

-- a line's answer is no larger than that of the same line of the works with the tighter limit
line_no_larger :
    (limit : Limit) → Unsplit limit → (p q : Plant) (x : Concentrations) (a b : Answer)
    → AlikeBut limit p q
    → LineChosen p x a
    → LineChosen q x b
    → NoLarger a b
line_no_larger limit u p q x a b alike c d = go a (line_positive p) refl c
  where
    same : line_positive q ≡ line_positive p
    same = ap line_positive alike.all_else ∙ same_parts limit u p (limit_of limit q)

    go : (e : Answer) (v : Bool) → line_positive p ≡ v → LineChosenBy v p x e → NoLarger e b
    go e true h k = looser_among limit p q x e b alike k (subst (λ (z : Bool). LineChosenBy z q x b) (same ∙ h) d)
    go (Ok s) false h k = cc
    go (Err n) false h k = tt

-- ---- the lines together

abbrev total : (ℕ → Answer) → ℕ → ℕ
total answers i = (answer_sheet (answers i)).total

abbrev totals : (ℕ → Answer) → ℕ → ℕ
totals answers n = sum_from 0 n (total answers)

module _ (f g : ℕ → Answer) where
  -- where every line of the one has a sheet, every line of the other has one
  kept : (n : ℕ) → ((i : ℕ) → i < n → NoLarger (f i) (g i)) → first_refused f n ≡ Ok tt → first_refused g n ≡ Ok tt
  unfolding first_refused answer_verdict
  kept zero h e = refl
  kept (suc n) h e =
      let before = kept_parts (first_refused f n) (answer_verdict (f n)) e in
      let own : f n ≡ Ok (answer_sheet (f n)) = designed_answer (f n) before.1 in
      let other = subst (λ (a : Answer). NoLarger a (g n)) own (h n (omega arith)) in
      rw (kept n (λ i l. h i (omega arith)) before.0, other.designed) refl

  -- and the totals add up to no more
  total_most :
      (n : ℕ) → ((i : ℕ) → i < n → NoLarger (f i) (g i)) → ((i : ℕ) → i < n → answer_verdict (f i) ≡ Ok tt)
      → totals g n ≤ totals f n
  unfolding answer_sheet sum_from
  total_most zero h e = omega arith
  total_most (suc n) h e =
      let own : f n ≡ Ok (answer_sheet (f n)) = designed_answer (f n) (e n (omega arith)) in
      let other = subst (λ (a : Answer). NoLarger a (g n)) own (h n (omega arith)) in
      let last : (answer_sheet (g n)).total ≤ (answer_sheet (f n)).total = rw other.designed other.most in
      let before = total_most n (λ i l. h i (omega arith)) (λ i l. e i (omega arith)) in
      let e : n + 1 ≡ suc n = omega arith in
      subst (λ (m : ℕ). totals g m ≤ totals f m) e (omega (arith, sum_grown (total g) n _ _ refl refl, sum_grown (total f) n _ _ refl refl))

-- a works of such lines
lines_no_larger :
    (limit : Limit) → Unsplit limit → (p q : Plant) (x : Concentrations) (split : Split) (w : Works) (b : Result Works Refusal)
    → AlikeBut limit p q
    → WorksOfLines p x split (Ok w)
    → WorksOfLines q x split b
    → (v : Works) × (b ≡ Ok v) × (v.sums.total ≤ w.sums.total)
unfolding works_of works_by sums_of works_sheets
lines_no_larger limit u p q x split w b alike h k = go (first_refused h.answers split.count) refl
  where
    each : (i : ℕ) → i < split.count → NoLarger (h.answers i) (k.answers i)
    each i l =
        line_no_larger limit u (line_of p split i) (line_of q split i) x (h.answers i) (k.answers i) (line_alike limit u p q split i alike)
        (h.each i l)
        (k.each i l)

    go : (v : Verdict) → first_refused h.answers split.count ≡ v → (v : Works) × (b ≡ Ok v) × (v.sums.total ≤ w.sums.total)
    go (Err n) e = let z : Ok w ≡ Err n = h.together ∙ ap (λ (v : Verdict). works_by v h.answers split.count) e in cc
    go (Ok t) e =
        let other = kept h.answers k.answers split.count each e in
        let mine : Ok w ≡ works_by (Ok tt) h.answers split.count = h.together ∙ ap (λ (v : Verdict). works_by v h.answers split.count) e in
        let own : w.sums.total ≡ (sums_of h.answers split.count).total = ap (λ (z : Result Works Refusal). (works_sheets z).sums.total) mine in
        let most = total_most h.answers k.answers split.count each (λ i l. all_designed h.answers split.count e i l) in
        (_, k.together ∙ ap (λ (v : Verdict). works_by v k.answers split.count) other, omega arith)

-- A works that has its sheets has them under the looser limit too, with no larger total.
pub looser_works :
    (limit : Limit) → Unsplit limit → (p q : Plant) (r : Readings) (split : Split) (w : Works) (b : Result Works Refusal)
    → AlikeBut limit p q
    → T (all_kept (data_rules q r))
    → WorksChosen p r split (Ok w)
    → WorksChosen q r split b
    → (v : Works) × (b ≡ Ok v) × (v.sums.total ≤ w.sums.total)
unfolding accept_works works_rules accept_by
looser_works limit u p q r split w b alike accepted c d = go (accept_works p r split) refl c
  where
    go : (o : Acceptance) → accept_works p r split ≡ o → WorksAccepted p split (Ok w) o → (v : Works) × (b ≡ Ok v) × (v.sums.total ≤ w.sums.total)
    go (Err n) e f = cc
    go (Ok x) e f =
        let given = accepted_kept (works_rules p r split) (values_of p r) x e in
        let valid = and_l (split_valid split) (all_kept (data_rules p r)) given.0 in
        let verdicts = (all_kept_verdict (works_rules q r split)).0 (and_i (split_valid split) (all_kept (data_rules q r)) valid accepted) in
        let values : values_of q r ≡ x = looser_values limit p q r alike ∙ given.1 in
        let other : accept_works q r split ≡ Ok x = ap (λ (v : Verdict). accept_by v (values_of q r)) verdicts ∙ ap Ok values in
        lines_no_larger limit u p q x split w b alike f (subst (WorksAccepted q split b) other d)
