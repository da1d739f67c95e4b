use Rattle.silent_files.proofs.SoughtWords.{told_of, no_token_is, a_token_is, no_tokens}
use Rattle.silent_files.specs.WordsSought.{bytes_of}
use Rattle.silent_files.proofs.words.names_one.Goals as goal

pub returns-then-not-occurs_one-clause-lacks : goal.returns-then-not-occurs_one-clause-lacks
returns-then-not-occurs_one-clause-lacks c none = c.occurs_one.ensures c.if-not-occurs_one.true

pub returns-in-Ok-clause-lacks : goal.returns-in-Ok-clause-lacks
returns-in-Ok-clause-lacks c none =
    no_token_is (bytes_of c.args.words.now) c.args.source.now.bytes.items c.in-Ok.tokens.items c.in-Ok.ensures.ok
    (told_of (bytes_of c.args.words.now) c.is_among.ensures c.deref.ensures.value c.deref-in-Ok.ensures.value none)

pub returns-in-Ok-clause-names : goal.returns-in-Ok-clause-names
returns-in-Ok-clause-names c some =
    a_token_is (bytes_of c.args.words.now) c.args.source.now.bytes.items c.in-Ok.tokens.items c.in-Ok.ensures.ok
    (told_of (bytes_of c.args.words.now) c.is_among.ensures c.deref.ensures.value c.deref-in-Ok.ensures.value some)

pub returns-else-is_refusal-clause-lacks : goal.returns-else-is_refusal-clause-lacks
returns-else-is_refusal-clause-lacks c none =
    no_tokens (bytes_of c.args.words.now) c.args.source.now.bytes.items c.in-Err.fault
    (c.in-Err.ensures.err (c.is_refusal.ensures c.if-is_refusal.false))
