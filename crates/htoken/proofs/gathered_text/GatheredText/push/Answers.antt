use Rattle.htoken.proofs.Names.{subst, IsUtf8-encode, encode_ascii, two_bytes, three_bytes, four_bytes}
use Rattle.std.proofs.Common.{IsUtf8}
use Rattle.htoken.proofs.gathered_text.GatheredText.push.Goals as goal

pub put-requires-clause-utf8 : goal.put-requires-clause-utf8
put-requires-clause-utf8 c = subst IsUtf8 (encode_ascii c.args.ch c.if-code-lt128.true) (IsUtf8-encode c.args.ch c.ranges.ch.0)

pub put-requires-then-code-lt2048-clause-utf8 : goal.put-requires-then-code-lt2048-clause-utf8
put-requires-then-code-lt2048-clause-utf8 c =
    subst IsUtf8 (two_bytes c.args.ch c.if-code-lt128.false c.if-code-lt2048.true) (IsUtf8-encode c.args.ch c.ranges.ch.0)

pub returns-then-code-lt2048-clause-text : goal.returns-then-code-lt2048-clause-text
returns-then-code-lt2048-clause-text c = rw (two_bytes c.args.ch c.if-code-lt128.false c.if-code-lt2048.true) c.put-then-code-lt2048.ensures.text

pub put-requires-then-code-lt65536-clause-utf8 : goal.put-requires-then-code-lt65536-clause-utf8
put-requires-then-code-lt65536-clause-utf8 c =
    subst IsUtf8 (three_bytes c.args.ch c.if-code-lt2048.false c.if-code-lt65536.true) (IsUtf8-encode c.args.ch c.ranges.ch.0)

pub returns-then-code-lt65536-clause-text : goal.returns-then-code-lt65536-clause-text
returns-then-code-lt65536-clause-text c = rw (three_bytes c.args.ch c.if-code-lt2048.false c.if-code-lt65536.true) c.put-then-code-lt65536.ensures.text

pub put-requires-2-clause-utf8 : goal.put-requires-2-clause-utf8
put-requires-2-clause-utf8 c = subst IsUtf8 (four_bytes c.args.ch c.if-code-lt65536.false) (IsUtf8-encode c.args.ch c.ranges.ch.0)

pub returns-clause-text : goal.returns-clause-text
returns-clause-text c = rw (four_bytes c.args.ch c.if-code-lt65536.false) c.put-2.ensures.text
