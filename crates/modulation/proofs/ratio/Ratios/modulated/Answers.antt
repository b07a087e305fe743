-- `modulation::ratio::Ratios::modulated` meets its contract. Assumes nothing.
use Rattle.modulation.proofs.Profile.{running_mono}
use Rattle.modulation.proofs.ratio.Ratios.modulated.Goals as goal

pub overflow_sub-result : goal.overflow_sub-result
overflow_sub-result c = rw (c.times.ensures, c.times-2.ensures) (running_mono c.args.q _ _ _ _ c.args.self.rising c.args.self.same)
