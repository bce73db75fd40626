-- A looser limit permits every candidate that the tighter one permits, with the same total: so of two plants that are alike but for it
-- the one with the looser limit never loses a design, and never has a larger total. Assumes nothing.
use mathlib.Core.Path.{◌≡◌, refl, ap, sym, subst, ◌∙◌}
use mathlib.Core.Bool.{Bool, true, ◌&&◌}
use Prim.Native.Nat.{ℕ, ◌+◌, ◌-◌, ◌*◌, ◌≤◌}
use native.Mathlib.Omega.{arith}
use lib.Dec.{T, leb→le, le→leb}
use lib.Ieee.Fits.{and_i, and_l, and_r}
use Rattle.std.specs.Prelude.{leb, Ok, Err}
use Rattle.rules.specs.Rules.{all_kept}
use Rattle.rules.specs.Accepting.{values_of, data_rules, accept}
use Rattle.rules.specs.AgeNitrate.{denitrified, covered}
use Rattle.rules.specs.ReactorSteps.{sludge_production, reactor_by, reactor_dosed, reactor_of}
use Rattle.rules.specs.SettlingSteps.{solids_kept, settling_of}
use Rattle.rules.specs.TermSteps.{term_share, nitrifies, term_fraction, term_removes, term_denitrified, term_covered}
use Rattle.rules.specs.Examining.{total_of, permitted}
use Rattle.rules.specs.Choosing.{candidate_total, grid, ChosenAmong, ChosenAccepted, Chosen}
use Rattle.rules.specs.LooserLimits.{Limit, limit_of, with_limit, AlikeBut, NoLarger}
use Rattle.rules.specs.declared.Plant.{Plant}
use Rattle.rules.specs.declared.Readings.{Readings}
use Rattle.rules.specs.declared.Concentrations.{Concentrations}
use Rattle.rules.specs.declared.Candidate.{Candidate}
use Rattle.rules.specs.Results.{Acceptance}
use Rattle.rules.specs.Results.{Answer}
use Rattle.rules.proofs.AcceptedData.{accepted_none_due, none_due_accepted}
use Rattle.rules.proofs.Examined.{FractionKept, TankKept, permitted_keeps}
use Rattle.rules.proofs.NitrateColumns.{fraction_keeps}
use Rattle.rules.proofs.WiderChoice.{wider_choice}

-- a higher target covers what a lower one covers
higher_covers : (own by_dose w m n : ℕ) → m ≤ n → T (covered own by_dose (denitrified w m)) → T (covered own by_dose (denitrified w n))
unfolding covered denitrified
higher_covers own by_dose w m n h t =
    let c : 1000 * (w - m) ≤ own + 1000 * by_dose = leb→le (1000 * (w - m)) (own + 1000 * by_dose) t in
    le→leb (1000 * (w - n)) (own + 1000 * by_dose) (omega arith)

-- what fits a limit fits a larger one
fits_larger : (n m k : ℕ) → m ≤ k → T (leb n m) → T (leb n k)
fits_larger n m k h t = le→leb n k (let l : n ≤ m = leb→le n m t in omega arith)

module _ (p : Plant) (x : Concentrations) (n : ℕ) where
  -- the fraction's rules with a higher target
  with_target : (f : ℕ) → p.nitrate_target ≤ n → FractionKept p x f → FractionKept (with_limit Limit.nitrate_target n p) x f
  unfolding with_limit reactor_of reactor_dosed reactor_by term_share nitrifies term_fraction term_removes term_denitrified term_covered
  with_target f h t =
      let k = (fraction_keeps p x f).0 t in
      let reactor = reactor_of p x f in
      (fraction_keeps (with_limit Limit.nitrate_target n p) x f).1
      (record {
        covered = higher_covers reactor.removes reactor.removed_by_dose reactor.nitrified p.nitrate_target n h k.covered;
        nitrified = k.nitrified;
        terms_covered = k.terms_covered;
      })

  module _ (r h : ℕ) where
    kept : Bool
    kept = let tank = settling_of p r h in solids_kept tank.solids tank.sludge_volume

    surface : ℕ → Bool
    surface m = leb (settling_of p r h).surface m

    depth : ℕ → Bool
    depth m = leb (settling_of p r h).depth m

    -- the tank's rules with a larger surface, and with a larger depth
    with_surface : p.site_surface ≤ n → TankKept p r h → TankKept (with_limit Limit.site_surface n p) r h
    unfolding with_limit settling_of kept surface depth
    with_surface larger t =
        let rest = and_r kept (surface p.site_surface && (depth p.site_depth && true)) t in
        and_i kept (surface n && (depth p.site_depth && true))
        (and_l kept (surface p.site_surface && (depth p.site_depth && true)) t)
        (and_i (surface n) (depth p.site_depth && true)
        (fits_larger (settling_of p r h).surface p.site_surface n larger (and_l (surface p.site_surface) (depth p.site_depth && true) rest))
        (and_r (surface p.site_surface) (depth p.site_depth && true) rest))

    with_depth : p.site_depth ≤ n → TankKept p r h → TankKept (with_limit Limit.site_depth n p) r h
    unfolding with_limit settling_of kept surface depth
    with_depth larger t =
        let rest = and_r kept (surface p.site_surface && (depth p.site_depth && true)) t in
        let last = and_r (surface p.site_surface) (depth p.site_depth && true) rest in
        and_i kept (surface p.site_surface && (depth n && true))
        (and_l kept (surface p.site_surface && (depth p.site_depth && true)) t)
        (and_i (surface p.site_surface) (depth n && true)
        (and_l (surface p.site_surface) (depth p.site_depth && true) rest)
        (and_i (depth n) true (fits_larger (settling_of p r h).depth p.site_depth n larger (and_l (depth p.site_depth) true last)) tt))

-- a candidate with another limit
record Same (limit : Limit) (p : Plant) (x : Concentrations) (n : ℕ) (y : Candidate) : Type 0 where
  permits : limit_of limit p ≤ n → T (permitted p x y) → T (permitted (with_limit limit n p) x y)
  total : candidate_total (with_limit limit n p) x y ≡ candidate_total p x y

same : (limit : Limit) (p : Plant) (x : Concentrations) (n : ℕ) (y : Candidate) → Same limit p x n y
unfolding limit_of with_limit candidate_total total_of reactor_of reactor_dosed reactor_by sludge_production settling_of term_share nitrifies term_fraction term_removes term_covered
same Limit.nitrate_target p x n y =
    record {
      permits = λ h t.
          let k = (permitted_keeps p x y).0 t in
          (permitted_keeps (with_limit Limit.nitrate_target n p) x y).1
          (record { grid = k.grid; fraction = with_target p x n y.fraction h k.fraction; tank = k.tank });
      total = refl;
    }
same Limit.site_surface p x n y =
    record {
      permits = λ h t.
          let k = (permitted_keeps p x y).0 t in
          (permitted_keeps (with_limit Limit.site_surface n p) x y).1
          (record { grid = k.grid; fraction = k.fraction; tank = with_surface p x n y.return_ratio y.thickening h k.tank });
      total = refl;
    }
same Limit.site_depth p x n y =
    record {
      permits = λ h t.
          let k = (permitted_keeps p x y).0 t in
          (permitted_keeps (with_limit Limit.site_depth n p) x y).1
          (record { grid = k.grid; fraction = k.fraction; tank = with_depth p x n y.return_ratio y.thickening h k.tank });
      total = refl;
    }

-- Every candidate that is permitted under the tighter limit is permitted under the looser.
pub looser_permits :
    (limit : Limit) (p q : Plant) (x : Concentrations) (y : Candidate) → AlikeBut limit p q → T (permitted p x y) → T (permitted q x y)
looser_permits limit p q x y a t =
    subst (λ (z : Plant). T (permitted z x y)) (sym a.all_else) ((same limit p x (limit_of limit q) y).permits a.looser t)

-- Every candidate has the same total under both.
pub looser_total :
    (limit : Limit) (p q : Plant) (x : Concentrations) (y : Candidate) → AlikeBut limit p q → candidate_total q x y ≡ candidate_total p x y
looser_total limit p q x y a =
    ap (λ (z : Plant). candidate_total z x y) a.all_else ∙ (same limit p x (limit_of limit q) y).total

-- the readings' values do not know the limits
same_values : (limit : Limit) (p : Plant) (r : Readings) (n : ℕ) → values_of (with_limit limit n p) r ≡ values_of p r
unfolding with_limit values_of
same_values Limit.nitrate_target p r n = refl
same_values Limit.site_surface p r n = refl
same_values Limit.site_depth p r n = refl

pub looser_values : (limit : Limit) (p q : Plant) (r : Readings) → AlikeBut limit p q → values_of q r ≡ values_of p r
looser_values limit p q r alike = ap (λ (z : Plant). values_of z r) alike.all_else ∙ same_values limit p r (limit_of limit q)

-- so of two answers that are chosen over the same concentrations the second is no larger
pub looser_among :
    (limit : Limit) (p q : Plant) (x : Concentrations) (a b : Answer)
    → AlikeBut limit p q
    → ChosenAmong p x (grid p) a
    → ChosenAmong q x (grid q) b
    → NoLarger a b
looser_among limit p q x (Err n) b alike c d = tt
looser_among limit p q x (Ok s) b alike c d =
    wider_choice p q x s b
    (record {
      permits = λ z t. looser_permits limit p q x z alike t;
      total = λ z. let t = looser_total limit p q x z alike in omega arith;
    })
    c
    d

-- Of any two answers that keep demand 3, for two plants alike but for one limit whose data are accepted: where the one under the tighter
-- limit is a design, so is the other, with no larger total.
pub looser_limit :
    (limit : Limit) (p q : Plant) (r : Readings) (a b : Answer)
    → AlikeBut limit p q
    → T (all_kept (data_rules q r))
    → Chosen p r a
    → Chosen q r b
    → NoLarger a b
looser_limit limit p q r (Err n) b alike accepted c d = tt
looser_limit limit p q r (Ok s) b alike accepted c d = go (accept p r) refl c
  where
    go : (o : Acceptance) → accept p r ≡ o → ChosenAccepted p (Ok s) o → NoLarger (Ok s) b
    go (Err n) e f = cc
    go (Ok y) e f =
        let own : y ≡ values_of q r = sym (accepted_none_due p r y e).1 ∙ sym (looser_values limit p q r alike) in
        looser_among limit p q (values_of q r) (Ok s) b alike
        (subst (λ (z : Concentrations). ChosenAmong p z (grid p) (Ok s)) own f)
        (subst (ChosenAccepted q b) (none_due_accepted q r accepted) d)
