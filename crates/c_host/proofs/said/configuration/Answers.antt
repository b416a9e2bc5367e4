-- `c_host::said::configuration` meets its contract: it is read where the state has it.
use Rattle.state_row.specs.Layout.{state_of}
use Rattle.c_host.proofs.said.configuration.Goals as goal

pub returns : goal.returns
unfolding state_of
returns c = c.configuration_at.ensures
