use Rattle.table_json.proofs.FunctionsRead.{no_function_members}
use Rattle.table_json.proofs.functions.FunctionMembers.new.Goals as goal

pub returns-clause-members : goal.returns-clause-members
returns-clause-members c = no_function_members
