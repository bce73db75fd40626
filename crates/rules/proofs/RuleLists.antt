-- Laws of rules in order, each by one induction over the list: all kept is the verdict `Kept`, the first broken is the
-- verdict `Broken`, and a list's parts are judged in turn. Assumes nothing.
use mathlib.Core.Logic.{◌↔◌, ◌⊎◌, inl, inr}
use mathlib.Core.Path.{◌≡◌, refl, sym, ap, ◌∙◌}
use mathlib.Core.Bool.{Bool, true, false, cond, not, ◌&&◌, ◌||◌}
use mathlib.Core.List.{List, [], ◌∷◌, ◌++◌}
use Prim.Native.Nat.{ℕ}
use borrow.Author.Tests.{eq-eqb}
use denote.Floats.{passes, is_true}
use lib.Dec.{T, eqb}
use Rattle.std.specs.Prelude.{Ok, Err}
use Rattle.std.proofs.lemmas.Bool.{or_left, or_right}
use Rattle.rules.specs.Rules.{Rule, all_kept, verdict, after, FirstBroken}
use Rattle.rules.specs.Answers.{refusal_number}
use Rattle.rules.specs.declared.Refusal.{Refusal}
use Rattle.rules.specs.Results.{Verdict}

pub all_kept_verdict : (l : List Rule) → T (all_kept l) ↔ (verdict l ≡ (Ok tt))
all_kept_verdict [] = (λ t. refl, λ e. tt)
all_kept_verdict (r ∷ later) = go r.kept (all_kept_verdict later)
  where
    go : (b : Bool) → T (all_kept later) ↔ (verdict later ≡ (Ok tt)) → T (b && all_kept later) ↔ (cond b (verdict later) (Err r.refusal) ≡ (Ok tt))
    go true h = h
    go false h = (λ t. absurd t, λ e. cc)

pub broken_verdict : (l : List Rule) (n : Refusal) → FirstBroken l n ↔ (verdict l ≡ Err n)
broken_verdict [] n = (λ f. absurd f, λ e. cc)
broken_verdict (r ∷ later) n = go r.kept (broken_verdict later n)
  where
    go :
        (b : Bool)
        → FirstBroken later n ↔ (verdict later ≡ Err n)
        → ((T (not b) × (r.refusal ≡ n)) ⊎ (T b × FirstBroken later n)) ↔ (cond b (verdict later) (Err r.refusal) ≡ Err n)
    go true h = (λ s. pass s, λ e. inr (tt, h.1 e))
      where
        pass : ((T (not true) × (r.refusal ≡ n)) ⊎ (T true × FirstBroken later n)) → verdict later ≡ Err n
        pass (inl f) = absurd f.0
        pass (inr f) = h.0 f.1
    go false h = (λ s. stop s, λ e. inl (tt, cc))
      where
        stop : ((T (not false) × (r.refusal ≡ n)) ⊎ (T false × FirstBroken later n)) → ◌≡◌ {A = Verdict} (Err r.refusal) (Err n)
        stop (inl f) = ap Err f.1
        stop (inr f) = absurd f.0

-- some rule of a list has this number
abbrev pub numbered : ℕ → List Rule → Bool
numbered k [] = false
numbered k (r ∷ later) = eqb (refusal_number r.refusal) k || numbered k later

-- the first broken is one of the list's
pub first_broken_among : (l : List Rule) (n : Refusal) → FirstBroken l n → T (numbered (refusal_number n) l)
first_broken_among [] n f = f
first_broken_among (r ∷ later) n (inl f) = passes _ (or_left (eqb (refusal_number r.refusal) (refusal_number n)) _ (eq-eqb _ _ (ap refusal_number f.1)))
first_broken_among (r ∷ later) n (inr f) = passes _ (or_right (eqb (refusal_number r.refusal) (refusal_number n)) _ (is_true _ (first_broken_among later n f.1)))

pub verdict_append : (a b : List Rule) → verdict (a ++ b) ≡ after (verdict a) (verdict b)
verdict_append [] b = refl
verdict_append (r ∷ later) b = go r.kept (verdict_append later b)
  where
    go :
        (k : Bool)
        → verdict (later ++ b) ≡ after (verdict later) (verdict b)
        → cond k (verdict (later ++ b)) (Err r.refusal) ≡ after (cond k (verdict later) (Err r.refusal)) (verdict b)
    go true h = h
    go false h = refl

-- a rule that is kept, at a list's end, changes nothing
pub verdict_kept_last : (l : List Rule) (r : Rule) → r.kept ≡ true → verdict (l ++ (r ∷ [])) ≡ verdict l
verdict_kept_last l r e = verdict_append l (r ∷ []) ∙ (ap (λ (b : Bool). after (verdict l) (cond b (Ok tt) (Err r.refusal))) e ∙ same (verdict l))
  where
    same : (v : Verdict) → after v (Ok tt) ≡ v
    same (Ok u) = refl
    same (Err n) = refl

pub kept_append : (a b : List Rule) → T (all_kept (a ++ b)) ↔ (T (all_kept a) × T (all_kept b))
kept_append [] b = (λ t. (tt, t), λ t. t.1)
kept_append (r ∷ later) b = go r.kept (kept_append later b)
  where
    go :
        (k : Bool)
        → T (all_kept (later ++ b)) ↔ (T (all_kept later) × T (all_kept b))
        → T (k && all_kept (later ++ b)) ↔ (T (k && all_kept later) × T (all_kept b))
    go true h = h
    go false h = (λ t. absurd t, λ t. absurd t.0)

-- the first broken of two lists: of the first, or of the second where the first is kept
pub broken_append : (a b : List Rule) (n : Refusal) → FirstBroken (a ++ b) n ↔ (FirstBroken a n ⊎ (T (all_kept a) × FirstBroken b n))
broken_append a b n = (
  λ f. forth (verdict a) refl (sym (verdict_append a b) ∙ (broken_verdict (a ++ b) n).0 f),
  λ s. (broken_verdict (a ++ b) n).1 (verdict_append a b ∙ back s),
)
  where
    forth : (v : Verdict) → verdict a ≡ v → after (verdict a) (verdict b) ≡ Err n → FirstBroken a n ⊎ (T (all_kept a) × FirstBroken b n)
    forth (Ok u) e h = inr ((all_kept_verdict a).1 e, (broken_verdict b n).1 (ap (λ (w : Verdict). after w (verdict b)) (sym e) ∙ h))
    forth (Err m) e h = inl ((broken_verdict a n).1 (e ∙ (ap (λ (w : Verdict). after w (verdict b)) (sym e) ∙ h)))

    back : FirstBroken a n ⊎ (T (all_kept a) × FirstBroken b n) → after (verdict a) (verdict b) ≡ Err n
    back (inl f) = ap (λ (w : Verdict). after w (verdict b)) ((broken_verdict a n).0 f)
    back (inr f) = ap (λ (w : Verdict). after w (verdict b)) ((all_kept_verdict a).0 f.0) ∙ (broken_verdict b n).0 f.1
