-- `total_steps` meets its contract. Assumes nothing.
use Rattle.timing.specs.Steps.{steps_of}
use Rattle.timing.proofs.steps.total_steps.Goals as goal

pub returns : goal.returns
unfolding steps_of
returns c = rw (c.duration_ms.ensures, c.time_step_ms.ensures) at c.steps_up_to_limit.ensures
