use Rattle.rz_machine.proofs.StubFound.{stubs_name_nodes}
use Rattle.rz_machine.proofs.stub.stubs_name_nodes.Goals as goal

pub returns : goal.returns
returns c = stubs_name_nodes
