-- Demand 3 determines the answer: two answers that keep it are equal. Of two least designs neither comes before the
-- other, so their totals, fractions, return ratios and thickening times agree, and with them their sheets.
-- Assumes nothing.
use mathlib.Core.Path.{◌≡◌, sym, ap, ◌∙◌}
use Prim.Native.Nat.{ℕ}
use native.Mathlib.Nat.{le_antisymm}
use native.Mathlib.Omega.{arith}
use Rattle.std.specs.Prelude.{Ok, Err}
use Rattle.rules.specs.Accepting.{accept}
use Rattle.rules.specs.Examining.{sheet_of}
use Rattle.rules.specs.Choosing.{Candidates, candidate_of, candidate_total, NotBeforeBy, Least, ChosenAmong, ChosenAccepted, Chosen, grid}
use Rattle.rules.specs.declared.Plant.{Plant}
use Rattle.rules.specs.declared.Readings.{Readings}
use Rattle.rules.specs.declared.Concentrations.{Concentrations}
use Rattle.rules.specs.declared.Candidate.{Candidate}
use Rattle.rules.specs.declared.Sheet.{Sheet}
use Rattle.rules.specs.Results.{Acceptance}
use Rattle.rules.specs.Results.{Answer}

-- a candidate is its three figures
same_candidate : (d y : Candidate) → d.fraction ≡ y.fraction → d.return_ratio ≡ y.return_ratio → d.thickening ≡ y.thickening → d ≡ y
same_candidate d y f r h = λ i. record { fraction = f i; return_ratio = r i; thickening = h i }

-- two candidates of which neither comes before the other are one, whatever the totals
pub neither_before : (volume : Candidate → ℕ) (d y : Candidate) → NotBeforeBy volume d y → NotBeforeBy volume y d → d ≡ y
neither_before volume d y a b =
    let t : volume d ≡ volume y = le_antisymm a.total b.total in
    let f : d.fraction ≡ y.fraction = le_antisymm (a.fraction t) (b.fraction (sym t)) in
    let r : d.return_ratio ≡ y.return_ratio = le_antisymm (a.ratio t f) (b.ratio (sym t) (sym f)) in
    same_candidate d y f r (le_antisymm (a.time t f r) (b.time (sym t) (sym f) (sym r)))

-- the order goes by the totals alone
pub same_order : (v w : Candidate → ℕ) → ((y : Candidate) → v y ≡ w y) → (d y : Candidate) → NotBeforeBy v d y → NotBeforeBy w d y
same_order v w e d y h =
    let back : w d ≡ w y → v d ≡ v y = λ t. e d ∙ (t ∙ sym (e y)) in
    record {
      total = omega (arith, h.total, e d, e y);
      fraction = λ t. h.fraction (back t);
      ratio = λ t f. h.ratio (back t) f;
      time = λ t f r. h.time (back t) f r;
    }

-- two least designs among the same candidates are one sheet
pub least_once : (p : Plant) (x : Concentrations) (among : Candidates) (s t : Sheet) → Least p x among s → Least p x among t → s ≡ t
least_once p x among s t a b =
    a.figures
    ∙ (ap
    (sheet_of p x)
    (neither_before (candidate_total p x) (candidate_of s) (candidate_of t) (a.rivals (candidate_of t) b.member b.allowed) (b.rivals (candidate_of s) a.member a.allowed))
    ∙ sym b.figures)

-- two answers chosen among the same candidates are one
pub chosen_among_once :
    (p : Plant) (x : Concentrations) (among : Candidates) (a b : Answer) → ChosenAmong p x among a → ChosenAmong p x among b → a ≡ b
chosen_among_once p x among (Ok s) (Ok t) a b = ap Ok (least_once p x among s t a b)
chosen_among_once p x among (Ok s) (Err n) a b = absurd (b.1 (candidate_of s) a.member a.allowed)
chosen_among_once p x among (Err n) (Ok t) a b = absurd (a.1 (candidate_of t) b.member b.allowed)
chosen_among_once p x among (Err n) (Err m) a b = ap Err (a.0 ∙ sym b.0)

-- two answers that keep demand 3 for the same plant data and readings are one
pub chosen_once : (p : Plant) (r : Readings) (a b : Answer) → Chosen p r a → Chosen p r b → a ≡ b
chosen_once p r a b = go (accept p r)
  where
    go : (o : Acceptance) → ChosenAccepted p a o → ChosenAccepted p b o → a ≡ b
    go (Err n) e f = e ∙ sym f
    go (Ok x) e f = chosen_among_once p x (grid p) a b e f
