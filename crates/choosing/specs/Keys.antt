-- What the sweep's own functions promise: the order of choosing as the order of keys, and the least key of a set of candidates. The
-- promise of choosing is demand 3 (Choosing.antt of `rules`), which names nothing of this. Assumes nothing.
use Rattle.std.specs.Prelude.{◌≤◌, ◌<◌, ◌⊎◌, ◌≡◌, Option, Some, None}
use Rattle.rules.specs.Choosing.{Candidates, candidate_total}
use Rattle.rules.specs.Sweep.{BestAmong}
use Rattle.rules.specs.declared.Plant.{Plant}
use Rattle.rules.specs.declared.Concentrations.{Concentrations}
use Rattle.rules.specs.declared.Candidate.{Candidate}
use Rattle.choosing.specs.declared.keys.Key.{Key}

-- the candidate that a key names
abbrev pub key_candidate : Key → Candidate
key_candidate k = record { fraction = k.fraction; return_ratio = k.return_ratio; thickening = k.thickening }

-- a key is at most another: by total, then fraction, then return ratio, then thickening time
pub record KeyAtMost (k l : Key) : Type 0 where
  pub total : k.total ≤ l.total
  pub fraction : k.total ≡ l.total → k.fraction ≤ l.fraction
  pub ratio : k.total ≡ l.total → k.fraction ≡ l.fraction → k.return_ratio ≤ l.return_ratio
  pub time : k.total ≡ l.total → k.fraction ≡ l.fraction → k.return_ratio ≡ l.return_ratio → k.thickening ≤ l.thickening

-- the lesser of two keys, either of which there may not be
abbrev pub LesserOf : Option Key → Option Key → Option Key → Type 0
LesserOf None b c = c ≡ b
LesserOf (Some k) None c = c ≡ Some k
LesserOf (Some k) (Some l) c = ((c ≡ Some k) × KeyAtMost k l) ⊎ ((c ≡ Some l) × KeyAtMost l k)

-- the same by the totals alone, where a key stands before another in the order of the sweep
abbrev pub FirstOf : Option Key → Option Key → Option Key → Type 0
FirstOf None b c = c ≡ b
FirstOf (Some k) None c = c ≡ Some k
FirstOf (Some k) (Some l) c = ((c ≡ Some k) × (k.total ≤ l.total)) ⊎ ((c ≡ Some l) × (l.total < k.total))

-- the key of the best of a set of candidates, with that candidate's total; none where nothing of the set is permitted
abbrev pub LeastKey : Plant → Concentrations → Candidates → Option Key → Type 0
LeastKey p x among None = BestAmong p x among None
LeastKey p x among (Some k) = (k.total ≡ candidate_total p x (key_candidate k)) × BestAmong p x among (Some (key_candidate k))

-- the best that a least key names
abbrev pub key_best : Option Key → Option Candidate
key_best None = None
key_best (Some k) = Some (key_candidate k)
