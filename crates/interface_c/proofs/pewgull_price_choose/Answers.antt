-- The outcome is that of the call that it hands on to. Assumes nothing.
use Rattle.interface_c.proofs.pewgull_price_choose.Goals as goal

pub returns : goal.returns
returns c = rw (c.finish.ensures c.choose.new.page) c.choose.ensures
