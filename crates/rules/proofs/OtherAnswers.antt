-- Other steps whose verdicts and sheets are the same answer the same: one proof for every request that left answers as they
-- were. Assumes nothing.
use mathlib.Core.Logic.{◌↔◌}
use mathlib.Core.Path.{◌≡◌, refl, ap, sym, subst, ◌∙◌}
use mathlib.Core.Bool.{Bool, true, false}
use mathlib.Core.List.{List, ◌++◌}
use lib.Dec.{T}
use Rattle.std.specs.Prelude.{Ok, Err}
use Rattle.rules.specs.Rules.{Rule, all_kept, verdict, after}
use Rattle.rules.specs.Accepting.{values_of, data_rules, accept_by, accept}
use Rattle.rules.specs.Examining.{sheet_from, sheet_of, candidate_rules, permitted, answer_by, examine, examination_rules}
use Rattle.rules.specs.Choosing.{candidate_of, candidate_total, ChosenAccepted, Chosen}
use Rattle.rules.specs.OtherSteps.{Calculation, accept_with, permitted_with, examine_with, total_with, ChosenAcceptedWith, ChosenWith, SameAnswers}
use Rattle.rules.specs.declared.Plant.{Plant}
use Rattle.rules.specs.declared.Readings.{Readings}
use Rattle.rules.specs.declared.Concentrations.{Concentrations}
use Rattle.rules.specs.declared.Candidate.{Candidate}
use Rattle.rules.specs.declared.Sheet.{Sheet}
use Rattle.rules.specs.Results.{Verdict}
use Rattle.rules.specs.Results.{Acceptance}
use Rattle.rules.specs.Results.{Answer}
use Rattle.rules.proofs.RuleLists.{all_kept_verdict, verdict_append}
use Rattle.rules.proofs.Examined.{examine_by_rules}
use Rattle.rules.proofs.ChosenOnce.{neither_before, same_order}

-- two tests that hold together are one
pub same_test : (a b : Bool) → T a ↔ T b → a ≡ b
same_test true true h = refl
same_test true false h = absurd (h.0 tt)
same_test false true h = absurd (h.1 tt)
same_test false false h = refl

-- lists with one verdict are kept together
pub kept_by_verdict : (a b : List Rule) → verdict a ≡ verdict b → all_kept a ≡ all_kept b
kept_by_verdict a b e =
    same_test (all_kept a) (all_kept b)
    (λ t. (all_kept_verdict b).1 (sym e ∙ (all_kept_verdict a).0 t), λ t. (all_kept_verdict a).1 (e ∙ (all_kept_verdict b).0 t))

module _
    (s : Calculation) (p : Plant)
    (for_data : (r : Readings) → verdict (data_rules p r) ≡ verdict (s.for_data p r))
    (for_candidate : (x : Concentrations) (y : Candidate) → verdict (candidate_rules p x y) ≡ verdict (s.for_candidate p x y))
    (sheets : (x : Concentrations) (y : Candidate) → sheet_of p x y ≡ s.sheet p x y) where
  same_accepted : (r : Readings) → accept p r ≡ accept_with s p r
  unfolding accept
  same_accepted r = ap (λ (v : Verdict). accept_by v (values_of p r)) (for_data r)

  same_permitted : (x : Concentrations) (y : Candidate) → permitted p x y ≡ permitted_with s p x y
  unfolding permitted
  same_permitted x y = kept_by_verdict (candidate_rules p x y) (s.for_candidate p x y) (for_candidate x y)

  same_answer : (r : Readings) (y : Candidate) → examine p r y ≡ examine_with s p r y
  unfolding examination_rules
  same_answer r y =
      let x = values_of p r in
      examine_by_rules p r y
      ∙ (ap (λ (v : Verdict). answer_by v (sheet_of p x y))
      (verdict_append (data_rules p r) (candidate_rules p x y)
      ∙ (ap (λ (v : Verdict). after v (verdict (candidate_rules p x y))) (for_data r)
      ∙ (ap (after (verdict (s.for_data p r))) (for_candidate x y) ∙ sym (verdict_append (s.for_data p r) (s.for_candidate p x y)))))
      ∙ ap (answer_by (verdict (s.for_data p r ++ s.for_candidate p x y))) (sheets x y))

  -- a candidate has one total
  same_total : (x : Concentrations) (y : Candidate) → candidate_total p x y ≡ total_with s p x y
  unfolding sheet_of sheet_from candidate_total
  same_total x y = ap (λ (sheet : Sheet). sheet.total) (sheets x y)

  same_choice : (r : Readings) (a : Answer) → Chosen p r a ↔ ChosenWith s p r a
  same_choice r a = rw (← same_accepted r) (go a (accept p r))
    where
      forth : (x : Concentrations) (y : Candidate) → T (permitted p x y) → T (permitted_with s p x y)
      forth x y t = subst T (same_permitted x y) t

      back : (x : Concentrations) (y : Candidate) → T (permitted_with s p x y) → T (permitted p x y)
      back x y t = subst T (sym (same_permitted x y)) t

      go : (b : Answer) (o : Acceptance) → ChosenAccepted p b o ↔ ChosenAcceptedWith s p b o
      go b (Err n) = (λ h. h, λ h. h)
      go (Err n) (Ok x) = (λ h. (h.0, λ y g t. h.1 y g (back x y t)), λ h. (h.0, λ y g t. h.1 y g (forth x y t)))
      go (Ok d) (Ok x) = (
        λ h.
            record {
              member = h.member;
              allowed = forth x (candidate_of d) h.allowed;
              figures = h.figures ∙ sheets x (candidate_of d);
              rivals = λ y g t. same_order (candidate_total p x) (total_with s p x) (same_total x) (candidate_of d) y (h.rivals y g (back x y t));
            },
        λ h.
            record {
              member = h.member;
              allowed = back x (candidate_of d) h.allowed;
              figures = h.figures ∙ sym (sheets x (candidate_of d));
              rivals = λ y g t. same_order (total_with s p x) (candidate_total p x) (λ z. sym (same_total x z)) (candidate_of d) y (h.rivals y g (forth x y t));
            },
      )

  pub same_answers : SameAnswers s p
  same_answers =
      record { acceptance = same_accepted; allowed = same_permitted; sheet = sheets; answer = same_answer; choice = same_choice }

-- two answers that keep demand 3 over the same other steps are one
pub chosen_with_once : (s : Calculation) (p : Plant) (r : Readings) (a b : Answer) → ChosenWith s p r a → ChosenWith s p r b → a ≡ b
chosen_with_once s p r a b = go a b (accept_with s p r)
  where
    go : (a b : Answer) (o : Acceptance) → ChosenAcceptedWith s p a o → ChosenAcceptedWith s p b o → a ≡ b
    go a b (Err n) e f = e ∙ sym f
    go (Ok d) (Ok t) (Ok x) e f =
        let one : candidate_of d ≡ candidate_of t =
        neither_before (total_with s p x) (candidate_of d) (candidate_of t) (e.rivals (candidate_of t) f.member f.allowed) (f.rivals (candidate_of d) e.member e.allowed) in
        ap Ok (e.figures ∙ (ap (s.sheet p x) one ∙ sym f.figures))
    go (Ok d) (Err n) (Ok x) e f = absurd (f.1 (candidate_of d) e.member e.allowed)
    go (Err n) (Ok t) (Ok x) e f = absurd (e.1 (candidate_of t) f.member f.allowed)
    go (Err n) (Err m) (Ok x) e f = ap Err (e.0 ∙ sym f.0)
