-- Document 02, item 14: what a planner may rely on of a looser limit. Two plants are alike in all but one limit, and the second's is no
-- tighter; then the design of the second has no larger total. Assumes nothing.
use Rattle.std.specs.Prelude.{ℕ, ◌≤◌, ◌≡◌, Ok, Err}
use Rattle.rules.specs.OtherSteps.{altered_plant}
use Rattle.rules.specs.declared.Plant.{Plant}
use Rattle.rules.specs.declared.Sheet.{Sheet}
use Rattle.rules.specs.Results.{Answer}

-- the limits: the design nitrate target, the largest settling surface and the largest settling depth that the site has room for
pub data Limit : Type 0 where
  nitrate_target : Limit
  site_surface : Limit
  site_depth : Limit

-- those that a works in lines does not split among them
pub data Unsplit : Limit → Type 0 where
  target : Unsplit Limit.nitrate_target
  depth : Unsplit Limit.site_depth

-- a plant's own limit
unfoldable pub limit_of : Limit → Plant → ℕ
limit_of Limit.nitrate_target p = p.nitrate_target
limit_of Limit.site_surface p = p.site_surface
limit_of Limit.site_depth p = p.site_depth

-- the plant with another
unfoldable pub with_limit : Limit → ℕ → Plant → Plant
with_limit Limit.nitrate_target n p =
    altered_plant p.flow p.wet_weather_flow n p.site_surface p.site_depth p.sludge_volume_index p.dose p.consent p.way p
with_limit Limit.site_surface n p =
    altered_plant p.flow p.wet_weather_flow p.nitrate_target n p.site_depth p.sludge_volume_index p.dose p.consent p.way p
with_limit Limit.site_depth n p =
    altered_plant p.flow p.wet_weather_flow p.nitrate_target p.site_surface n p.sludge_volume_index p.dose p.consent p.way p

-- two plants alike but for one limit, the second's no tighter
pub record AlikeBut (limit : Limit) (p q : Plant) : Type 0 where
  pub all_else : q ≡ with_limit limit (limit_of limit q) p
  pub looser : limit_of limit p ≤ limit_of limit q

-- an answer is a design of at most this total
pub record DesignAtMost (total : ℕ) (a : Answer) : Type 0 where
  pub sheet : Sheet
  pub designed : a ≡ Ok sheet
  pub most : sheet.total ≤ total

-- where the first answer is a design, so is the second, with no larger total
abbrev pub NoLarger : Answer → Answer → Type 0
NoLarger (Ok s) b = DesignAtMost s.total b
NoLarger (Err n) b = Unit {0}
