-- The least key of a set of candidates that grows: by another set with its least key, or by candidates none of which comes before a
-- permitted member. Assumes nothing.
use mathlib.Core.Path.{◌≡◌, sym, subst}
use mathlib.Core.Logic.{◌⊎◌, ◌↔◌, inl, inr}
use Prim.Native.Nat.{ℕ}
use native.Mathlib.Omega.{arith}
use lib.Dec.{T}
use Rattle.std.specs.Prelude.{Option, Some, None}
use Rattle.rules.specs.Examining.{permitted}
use Rattle.rules.specs.Choosing.{Candidates, candidate_total, NotBeforeBy, NotBefore}
use Rattle.rules.specs.declared.Plant.{Plant}
use Rattle.rules.specs.declared.Concentrations.{Concentrations}
use Rattle.rules.specs.declared.Candidate.{Candidate}
use Rattle.choosing.specs.declared.keys.Key.{Key}
use Rattle.choosing.specs.Keys.{key_candidate, KeyAtMost, LesserOf, LeastKey}

-- the order of choosing: nothing comes before itself, and what does not come after does not come after ..
pub not_before_self : (volume : Candidate → ℕ) (d : Candidate) → NotBeforeBy volume d d
not_before_self volume d = record { total = omega arith; fraction = λ t. omega arith; ratio = λ t f. omega arith; time = λ t f r. omega arith }

pub not_before_trans : (volume : Candidate → ℕ) (d e y : Candidate) → NotBeforeBy volume d e → NotBeforeBy volume e y → NotBeforeBy volume d y
not_before_trans volume d e y a b =
    record {
      total = omega (arith, a.total, b.total);
      fraction = λ t. omega (arith, a.total, b.total, a.fraction, b.fraction);
      ratio = λ t f. omega (arith, a.total, b.total, a.fraction, b.fraction, a.ratio, b.ratio);
      time = λ t f r. omega (arith, a.total, b.total, a.fraction, b.fraction, a.ratio, b.ratio, a.time, b.time);
    }

module _ (p : Plant) (x : Concentrations) where
  -- a key that is at most another is of a candidate that does not come after
  at_most_before :
      (k l : Key) → k.total ≡ candidate_total p x (key_candidate k) → l.total ≡ candidate_total p x (key_candidate l) → KeyAtMost k l → NotBefore p x (key_candidate k) (key_candidate l)
  at_most_before k l e h a =
      record {
        total = omega (arith, e, h, a.total);
        fraction = λ t. a.fraction (omega (arith, e, h, t));
        ratio = λ t f. a.ratio (omega (arith, e, h, t)) f;
        time = λ t f r. a.time (omega (arith, e, h, t)) f r;
      }

  -- the least key goes by the set alone
  pub same_key : (one two : Candidates) (k : Option Key) → ((y : Candidate) → one y ↔ two y) → LeastKey p x two k → LeastKey p x one k
  same_key one two None e l = λ y m t. l y ((e y).0 m) t
  same_key one two (Some k) e l = (l.0, ((e (key_candidate k)).1 l.1.0, l.1.1, λ y m t. l.1.2 y ((e y).0 m) t))

  -- a set and another together
  pub joined :
      (one two all : Candidates) (a b c : Option Key)
      → ((y : Candidate) → all y ↔ (one y ⊎ two y))
      → LeastKey p x one a
      → LeastKey p x two b
      → LesserOf a b c
      → LeastKey p x all c
  joined one two all None None c e l m r = subst (LeastKey p x all) (sym r) (λ y n t. go y ((e y).0 n) t)
    where
      go : (y : Candidate) → one y ⊎ two y → T (permitted p x y) → ⊥
      go y (inl n) t = l y n t
      go y (inr n) t = m y n t
  joined one two all None (Some k) c e l m r = subst (LeastKey p x all) (sym r) (m.0, ((e (key_candidate k)).1 (inr m.1.0), m.1.1, λ y n t. go y ((e y).0 n) t))
    where
      go : (y : Candidate) → one y ⊎ two y → T (permitted p x y) → NotBefore p x (key_candidate k) y
      go y (inl n) t = absurd (l y n t)
      go y (inr n) t = m.1.2 y n t
  joined one two all (Some k) None c e l m r = subst (LeastKey p x all) (sym r) (l.0, ((e (key_candidate k)).1 (inl l.1.0), l.1.1, λ y n t. go y ((e y).0 n) t))
    where
      go : (y : Candidate) → one y ⊎ two y → T (permitted p x y) → NotBefore p x (key_candidate k) y
      go y (inl n) t = l.1.2 y n t
      go y (inr n) t = absurd (m y n t)
  joined one two all (Some k) (Some h) c e l m (inl r) = subst (LeastKey p x all) (sym r.0) (l.0, ((e (key_candidate k)).1 (inl l.1.0), l.1.1, λ y n t. go y ((e y).0 n) t))
    where
      go : (y : Candidate) → one y ⊎ two y → T (permitted p x y) → NotBefore p x (key_candidate k) y
      go y (inl n) t = l.1.2 y n t
      go y (inr n) t = not_before_trans (candidate_total p x) (key_candidate k) (key_candidate h) y (at_most_before k h l.0 m.0 r.1) (m.1.2 y n t)
  joined one two all (Some k) (Some h) c e l m (inr r) = subst (LeastKey p x all) (sym r.0) (m.0, ((e (key_candidate h)).1 (inr m.1.0), m.1.1, λ y n t. go y ((e y).0 n) t))
    where
      go : (y : Candidate) → one y ⊎ two y → T (permitted p x y) → NotBefore p x (key_candidate h) y
      go y (inl n) t = not_before_trans (candidate_total p x) (key_candidate h) (key_candidate k) y (at_most_before h k m.0 l.0 r.1) (l.1.2 y n t)
      go y (inr n) t = m.1.2 y n t

  -- a permitted member of a set comes no later than y
  abbrev pub Beaten : Candidates → Candidate → Type 0
  Beaten among y = (z : Candidate) × among z × T (permitted p x z) × NotBefore p x z y

  -- candidates each of which is beaten change nothing
  pub grown :
      (from to : Candidates) (best : Option Key)
      → ((y : Candidate) → from y → to y)
      → ((y : Candidate) → to y → T (permitted p x y) → Beaten from y)
      → LeastKey p x from best
      → LeastKey p x to best
  grown from to None into beaten l = λ y m t. let z = beaten y m t in l z.0 z.1 z.2
  grown from to (Some k) into beaten l = (
    l.0,
    (
      into (key_candidate k) l.1.0,
      l.1.1,
      λ y m t. let z = beaten y m t in not_before_trans (candidate_total p x) (key_candidate k) z.0 y (l.1.2 z.0 z.1 z.2) z.3,
    ),
  )
