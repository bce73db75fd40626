-- `price` meets its contract: a refusal stands, a sheet gets its price where the tariff is valid, and else 22. Assumes nothing.
use Rattle.std.proofs.Common.{◌≡◌, ℕ, Bool, true, false, cond, Ok, Err}
use Rattle.std.proofs.lemmas.Result.{err_from_is_err_and}
use Rattle.rules.specs.Results.{Verdict}
use Rattle.rules.specs.Price.{price_of, priced_sheet, priced}
use Rattle.rules.specs.declared.Sheet.{Sheet}
use Rattle.rules.specs.declared.Tariff.{Tariff}
use Rattle.rules.specs.declared.Refusal.{Refusal}
use Rattle.pricing.proofs.price.Goals as goal

-- what the rule's verdict makes of a sheet
refused : (b : Bool) (t : Tariff) (s : Sheet) {n : Refusal} → ◌≡◌ {A = Verdict} (Err n) (cond b (Ok tt) (Err Refusal.Tariff)) → Err n ≡ priced_sheet b t s
refused true t s e = cc
refused false t s e = cc

held : (b : Bool) (t : Tariff) (s : Sheet) (cents : ℕ) → ◌≡◌ {A = Verdict} (Ok tt) (cond b (Ok tt) (Err Refusal.Tariff)) → cents ≡ price_of t s → Ok (record { sheet = s; price = cents }) ≡ priced_sheet b t s
held true t s cents e h = λ i. Ok (record { sheet = s; price = h i })
held false t s cents e h = cc

pub returns-in_err-sheet : goal.returns-in_err-sheet
unfolding priced
returns-in_err-sheet c =
    let p = err_from_is_err_and c.from_residual.result c.from_residual.ensures.1 in
    rw (p.1, p.2, c.in_err-sheet.was)

pub returns-in_err-rule : goal.returns-in_err-rule
unfolding priced
returns-in_err-rule c =
    let p = err_from_is_err_and c.from_residual-in_err-rule.result c.from_residual-in_err-rule.ensures.1 in
    rw (p.1, p.2, c.in_ok-sheet.was, ← c.tariff_valid.ensures) (refused _ _ _ c.in_err-rule.ensures)

pub returns : goal.returns
unfolding priced
returns c = rw (c.in_ok-sheet.was, ← c.tariff_valid.ensures) (held _ _ _ _ c.in_ok-rule.ensures c.price_of.ensures)
