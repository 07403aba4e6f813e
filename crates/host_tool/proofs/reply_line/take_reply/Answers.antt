use Rattle.std.proofs.Common.{inl, inr}
use Rattle.host_tool.proofs.reply_line.take_reply.Goals as goal

pub returns-else-read_reply-clause-hears : goal.returns-else-read_reply-clause-hears
returns-else-read_reply-clause-hears g c =
    let gives = rw c.in-Ok.is at c.next_line.follows.holds-at-none in (
      c.in-Ok.ensures.number,
      λ told. (c.in-Ok.line.text.now, inl (_, gives.line told, λ reply. c.if-read_reply.ensures.none (λ same. cc same) reply.0 reply.1)),
    )

pub returns-in-Err-TooLong-clause-hears : goal.returns-in-Err-TooLong-clause-hears
returns-in-Err-TooLong-clause-hears g c = (
  rw c.in-Err-TooLong.field-0-is at (c.in-Err-TooLong.ensures.numbered c.requires.stop),
  λ told. (let stop = rw c.in-Err-TooLong.field-0-is at (c.in-Err-TooLong.ensures.stop told c.requires.stop) in (stop.1.0, inr (stop.1.1, stop.1.2))),
)
