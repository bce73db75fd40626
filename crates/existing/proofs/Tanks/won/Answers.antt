-- The thickening time is one of the grid, and a return ratio of the grid wins or none does. Assumes nothing.
use Rattle.std.proofs.Common.{◌≡◌, subst, sym, Bool, true, false, ℕ, ◌≤◌, ◌<◌, ◌+◌, T, arith, rules, tests}
use Rattle.std.specs.Bool.{MatchBool}
use Rattle.rules.specs.Limits.{least_ratio}
use Rattle.rules.specs.AgeNitrate.{largest_return_ratio}
use Rattle.rules.specs.declared.Plant.{Plant}
use Rattle.rules.specs.declared.Existing.{Existing}
use Rattle.rules.proofs.RangeSearch.{any_from_Range}
use Rattle.existing.specs.Tanks.{tank_wins, TankWon, Decides}
use Rattle.existing.proofs.Winning.{operated_ranges}
use Rattle.existing.proofs.Tanks.won.Goals as goal

pub new-time-requires : goal.new-time-requires
new-time-requires c = omega (arith, c.from.ensures, (operated_ranges c.args.self.now.existing c.args.self.now.operated).1)

module _ (p : Plant) (e : Existing) (mass past : ℕ) (all : past ≡ largest_return_ratio p.tank + 1) where
  decided :
      (b : Bool)
      → MatchBool b ((r : ℕ) × (least_ratio ≤ r) × (r < past) × (true ≡ tank_wins p e mass r)) ((r : ℕ) → least_ratio ≤ r → r < past → false ≡ tank_wins p e mass r)
      → Decides (TankWon p e mass) b
  decided true h = record { ratio = h.0; least = h.1; most = omega (arith, h.2, all); won = subst T h.3 tt }
  decided false h = λ w. subst T (sym (h w.ratio w.least (omega (arith, w.most, all)))) w.won

pub returns : goal.returns
returns c =
    let tanks = c.args.self.now in
    let wins = tank_wins tanks.accepted.plant tanks.existing tanks.mass in
    decided tanks.accepted.plant tanks.existing tanks.mass _ (omega (arith, c.largest_return_ratio-last.ensures.0)) c.any.result
    (any_from_Range _ _ _ c.any.result (λ r. true ≡ wins r) (λ r. false ≡ wins r) c.any.ensures.ran (λ r q k. search (rules, tests)) (λ r q k. (search rules, search (rules, tests))))
