use Rattle.command_line.proofs.OwnWords.{no_check, no_help, no_long_help, no_long_version, no_short_help, no_short_version, no_verify}
use Rattle.command_line.proofs.vet_laws.own_words_are_no_call.Goals as goal

pub returns-clause-commands : goal.returns-clause-commands
returns-clause-commands c = (no_check, no_verify)

pub returns-clause-help : goal.returns-clause-help
returns-clause-help c = (no_short_help, no_long_help, no_help)

pub returns-clause-version : goal.returns-clause-version
returns-clause-version c = (no_short_version, no_long_version)
