-- What the pauses in aeration leave as it was. Assumes nothing.
use mathlib.Core.Path.{◌≡◌, refl, ap, ◌∙◌}
use mathlib.Core.Bool.{false}
use Prim.Native.Nat.{ℕ}
use Rattle.std.specs.Prelude.{Ok, Err}
use Rattle.rules.specs.Rules.{verdict}
use Rattle.rules.specs.Accepting.{accept, values_of}
use Rattle.rules.specs.ReactorSteps.{reactor_of}
use Rattle.rules.specs.SettlingSteps.{settling_of}
use Rattle.rules.specs.AerationSteps.{oxygen_transfer, transfer_of, aeration_by, aeration_saving, aeration_of}
use Rattle.rules.specs.Examining.{sheet_from, sheet_of, permitted, answer_by, examination_rules}
use Rattle.rules.specs.Choosing.{candidate_of, candidate_total, ChosenAccepted}
use Rattle.rules.specs.OtherSteps.{total_with, ChosenAcceptedWith, SameAnswers}
use Rattle.rules.specs.WithoutPauses.{aeration_without_pauses, sheet_without_pauses, steps_without_pauses, pauses, unpaused_sheet, unpaused, SameButTransfer}
use Rattle.rules.specs.declared.Plant.{Plant}
use Rattle.rules.specs.declared.Process.{Process}
use Rattle.rules.specs.declared.Concentrations.{Concentrations}
use Rattle.rules.specs.declared.Candidate.{Candidate}
use Rattle.rules.specs.declared.Sheet.{Sheet}
use Rattle.rules.specs.Results.{Verdict}
use Rattle.rules.specs.Results.{Acceptance}
use Rattle.rules.specs.Results.{Answer}
use Rattle.rules.proofs.Examined.{examine_by_rules}
use Rattle.rules.proofs.ChosenOnce.{same_order}
use Rattle.rules.proofs.OtherAnswers.{same_answers, chosen_with_once}

-- a process that does not pause has document 01's transfer
no_pause : (k : Process) (saturation fraction hourly : ℕ) → pauses k ≡ false → transfer_of k saturation fraction hourly ≡ oxygen_transfer saturation hourly
unfolding pauses transfer_of
no_pause Process.PreAnoxic saturation fraction hourly e = refl
no_pause Process.Simultaneous saturation fraction hourly e = refl
no_pause Process.Intermittent saturation fraction hourly e = cc
no_pause (Process.StepFeed steps) saturation fraction hourly e = refl

same_sheet : (p : Plant) (x : Concentrations) (y : Candidate) → unpaused_sheet p (sheet_of p x y) ≡ sheet_without_pauses p x y
unfolding unpaused_sheet sheet_of sheet_from sheet_without_pauses aeration_of aeration_saving aeration_without_pauses aeration_by
same_sheet p x y = refl

other_sheet : (p : Plant) (x : Concentrations) (y : Candidate) → pauses p.process ≡ false → sheet_of p x y ≡ sheet_without_pauses p x y
unfolding sheet_of sheet_from sheet_without_pauses aeration_of aeration_saving aeration_without_pauses aeration_by
other_sheet p x y e =
    let reactor = reactor_of p x y.fraction in
    let own = aeration_of p x reactor in
    ap (λ (t : ℕ). sheet_from p y reactor (settling_of p y.return_ratio y.thickening) (record { recirculation = own.recirculation; oxygen = own.oxygen; transfer = t }))
    (no_pause p.process p.oxygen_saturation reactor.fraction own.oxygen e)

-- For all data of a process that does not pause: every answer is as before.
pub other_process : (p : Plant) → pauses p.process ≡ false → SameAnswers steps_without_pauses p
unfolding steps_without_pauses
other_process p e = same_answers steps_without_pauses p (λ r. refl) (λ x y. refl) (λ x y. other_sheet p x y e)

unpaused_by : (p : Plant) (v : Verdict) (s : Sheet) → unpaused p (answer_by v s) ≡ answer_by v (unpaused_sheet p s)
unfolding unpaused answer_by
unpaused_by p (Ok u) s = refl
unpaused_by p (Err n) s = refl

-- demand 3 over the steps without pauses, from demand 3
chosen_before : (p : Plant) (a : Answer) (o : Acceptance) → ChosenAccepted p a o → ChosenAcceptedWith steps_without_pauses p (unpaused p a) o
unfolding steps_without_pauses unpaused unpaused_sheet candidate_of permitted candidate_total sheet_without_pauses sheet_from
chosen_before p a (Err n) e = ap (unpaused p) e
chosen_before p (Err n) (Ok x) h = h
chosen_before p (Ok s) (Ok x) h =
    record { member = h.member; allowed = h.allowed; figures = ap (unpaused_sheet p) h.figures ∙ same_sheet p x (candidate_of s); rivals = λ y g t. same_order (candidate_total p x) (total_with steps_without_pauses p x) (λ z. refl) (candidate_of s) y (h.rivals y g t) }

-- For all data: but for the transfer every answer and the choice are as before.
pub same_but_transfer : (p : Plant) → SameButTransfer p
unfolding steps_without_pauses examination_rules accept
same_but_transfer p =
    record {
      sheet = same_sheet p;
      answer = λ r y.
          ap (unpaused p) (examine_by_rules p r y)
          ∙ (unpaused_by p (verdict (examination_rules p r y)) (sheet_of p (values_of p r) y)
          ∙ ap (answer_by (verdict (examination_rules p r y))) (same_sheet p (values_of p r) y));
      chosen = λ r a h. chosen_before p a (accept p r) h;
      choice = λ r a b h before. chosen_with_once steps_without_pauses p r (unpaused p a) b (chosen_before p a (accept p r) h) before;
    }
