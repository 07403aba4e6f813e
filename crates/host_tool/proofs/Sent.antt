-- What has gone over a pair of streams, one thing after the other.
use Rattle.std.proofs.Common.{◌≡◌, ◌+◌, ◌-◌, ℕ, List, [], ◌∷◌, ◌++◌, length, take, drop, Some, Ok, Err, refl, sym, ap, subst, ◌∙◌, append_assoc, arith, length-append}
use Rattle.std.proofs.lemmas.List.{append-nil, flat_map_more, take-append-drop}
use Rattle.io_edge.specs.Lines.{IsNextLine, Reading, ahead, room}
use Rattle.line_runs.proofs.ComeFirst.{come_more, room_left, shrinks}
use Rattle.line_runs.specs.Taken.{ComeFirst}
use Rattle.script_tool.specs.Talk.{Answered, Event, Reset}
use Rattle.faults.specs.Faults.{Rose}
use Rattle.host_tool.specs.Asked.{AsksAnswered, WritesCommand}
use Rattle.host_tool.specs.Conveyed.{Conveyed, CutShort, Exchanged, InVain, IsHeard, IsWhyUnanswered, Unanswered, Sides, replies_ahead}
use Rattle.host_tool.specs.Exchange.{SpellReplies, SpellsReply, command_line, event_line, reset_line, sent_by}
use Rattle.host_tool.specs.declared.fault.LinkFault.{LinkFault}
use Rattle.host_tool.specs.declared.fault.LinkFault.TheVariants.{WriteFault, BadReply, Ended, ReadFault, TooMany}

-- an event more is there
some_event : (events : List Event) (event : Event) → events ++ event ∷ [] ≡ [] → ⊥
some_event [] event is = cc is
some_event (first ∷ events) event is = cc is

spelled_reset : (lines : List (List ℕ)) (events : List Event) → SpellReplies lines events → SpellReplies lines (events ++ Reset ∷ [])
spelled_reset lines [] is = is
spelled_reset lines (Reset ∷ events) spelled = spelled_reset lines events spelled
spelled_reset [] (Answered command reply ∷ events) spelled = absurd spelled
spelled_reset (line ∷ lines) (Answered command reply ∷ events) (one, spelled) = (one, spelled_reset lines events spelled)

spelled_more : (lines : List (List ℕ)) (events : List Event) (line command reply : List ℕ) → SpellReplies lines events → SpellsReply line reply
    → SpellReplies (lines ++ line ∷ []) (events ++ Answered command reply ∷ [])
spelled_more lines [] line command reply is one = subst (λ (ls : List (List ℕ)). SpellReplies (ls ++ line ∷ []) (Answered command reply ∷ [])) (sym is) (one, refl)
spelled_more lines (Reset ∷ events) line command reply spelled one = spelled_more lines events line command reply spelled one
spelled_more [] (Answered given said ∷ events) line command reply spelled one = absurd spelled
spelled_more (first ∷ lines) (Answered given said ∷ events) line command reply (here, spelled) one = (here, spelled_more lines events line command reply spelled one)

module _ (hears tells : Type 0) where
  -- no event has gone over the streams
  pub exchanged_none : (now : Sides) → Exchanged hears tells now now []
  exchanged_none now = record {
    written = λ told. sym (append-nil now.commands.written);
    handed_on = λ told some. absurd (some refl);
    lines = [];
    spelled = refl;
    taken = λ told. refl;
    number = omega arith;
    passed = λ told. refl;
    unread = refl;
    unwritten = refl;
  }

  module _ (old mid new : Sides) (events : List Event) (before : Exchanged hears tells old mid events) where
    -- a line more was written
    more_written : (event : Event) → (tells → new.commands.written ≡ mid.commands.written ++ event_line event) → tells
        → new.commands.written ≡ old.commands.written ++ sent_by (events ++ event ∷ [])
    more_written event wrote told =
        wrote told ∙ ap (λ (w : List ℕ). w ++ event_line event) (before.written told) ∙ flat_map_more event_line old.commands.written events event

    -- a reply more was read
    room_is : hears → room mid.reading ≡ room_left (room old.reading) (replies_ahead old) (replies_ahead mid)
    room_is told =
        let less = shrinks (room old.reading) (replies_ahead old) before.lines (replies_ahead mid) (before.taken told) in
        let passed = before.passed told in
        omega (arith, less, passed)

    pub exchanged_reset : (tells → new.commands.written ≡ mid.commands.written ++ event_line Reset) → (tells → new.commands.handed_on ≡ new.commands.written)
        → new.replies ≡ mid.replies → new.reading ≡ mid.reading → new.commands.faults ≡ mid.commands.faults → Exchanged hears tells old new (events ++ Reset ∷ [])
    exchanged_reset wrote handed replies reading faults = record {
      written = more_written Reset wrote;
      handed_on = λ told some. handed told;
      lines = before.lines;
      spelled = spelled_reset before.lines events before.spelled;
      taken = λ told. subst (λ (left : List ℕ). ComeFirst (room old.reading) (replies_ahead old) before.lines left) (λ i. ahead (sym reading i) (sym replies i).left) (before.taken told);
      number = ap (λ (r : Reading). r.number) reading ∙ before.number;
      passed = λ told. (λ i. (reading i).passed + length (ahead (reading i) (replies i).left)) ∙ before.passed told;
      unread = (λ i. (replies i).faults) ∙ before.unread;
      unwritten = faults ∙ before.unwritten;
    }

    pub asked_conveyed : (command reply : List ℕ) → AsksAnswered hears tells mid new command reply (Ok tt)
        → Exchanged hears tells old new (events ++ Answered command reply ∷ [])
    asked_conveyed command reply (wrote, heard, cause) = record {
      written = more_written (Answered command reply) wrote.written;
      handed_on = λ told some. wrote.handed_on told;
      lines = before.lines ++ heard.line ∷ [];
      spelled = spelled_more before.lines events heard.line command reply before.spelled heard.spelled;
      taken = λ told.
          come_more (room old.reading) (replies_ahead old) before.lines (replies_ahead mid) heard.line (replies_ahead new) (before.taken told)
          (subst (λ (n : ℕ). IsNextLine n (replies_ahead mid) heard.line (replies_ahead new)) (room_is told) (heard.next told));
      number = (let one = heard.number in let some = before.number in let all = length-append before.lines (heard.line ∷ []) in omega (arith, one, some, all));
      passed = λ told. heard.passed told ∙ before.passed told;
      unread = cause ∙ before.unread;
      unwritten = wrote.unwritten ∙ before.unwritten;
    }

    -- a part of a line was written
    pub cut_after : (line : List ℕ) → (tells → (n : ℕ) × (new.commands.written ≡ mid.commands.written ++ take n line)) → new.replies.faults ≡ mid.replies.faults
        → Rose mid.commands.faults new.commands.faults → CutShort tells old new (sent_by events ++ line)
    cut_after line wrote unread rose = record {
      written = λ told.
          (let part = wrote told in (
            sent_by events ++ take part.0 line,
            (drop part.0 line, ap (λ (l : List ℕ). sent_by events ++ l) (sym (take-append-drop part.0 line)) ∙ sym (append_assoc (sent_by events) (take part.0 line) (drop part.0 line))),
            part.1 ∙ ap (λ (w : List ℕ). w ++ take part.0 line) (before.written told) ∙ append_assoc old.commands.written (sent_by events) (take part.0 line),
          ));
      unread = unread ∙ before.unread;
      rose = rw before.unwritten at rose;
    }

    asked_in_vain : (command reply : List ℕ) (fault : LinkFault) → WritesCommand tells mid new command
        → IsWhyUnanswered hears (mid.reading.number + 1) (room mid.reading) (replies_ahead mid) new.replies.left fault → IsHeard fault mid.replies.faults new.replies.faults
        → InVain hears tells old new events command fault
    asked_in_vain command reply fault wrote why heard = record {
      mid = mid;
      before = before;
      written = wrote.written;
      handed_on = wrote.handed_on;
      why = why;
      heard = heard;
      unwritten = wrote.unwritten;
    }

    pub asked_refused : (command reply : List ℕ) (fault : LinkFault) → AsksAnswered hears tells mid new command reply (Err fault)
        → Unanswered hears tells old new (Some fault) events command
    asked_refused command reply WriteFault part = cut_after (command_line command) part.written part.unread part.rose
    asked_refused command reply (BadReply n) (wrote, why, heard) = asked_in_vain command reply (BadReply n) wrote why heard
    asked_refused command reply Ended (wrote, why, heard) = asked_in_vain command reply Ended wrote why heard
    asked_refused command reply ReadFault (wrote, why, heard) = asked_in_vain command reply ReadFault wrote why heard
    asked_refused command reply TooMany (wrote, why, heard) = asked_in_vain command reply TooMany wrote why heard

  -- what was cut short of some bytes was cut short of more
  pub cut_more : (old new : Sides) (all more : List ℕ) → CutShort tells old new all → CutShort tells old new (all ++ more)
  cut_more old new all more cut = record {
    written = λ told.
        (let part = cut.written told in
        let begins = part.1 in
        (part.0, (begins.0 ++ more, ap (λ (a : List ℕ). a ++ more) begins.1 ∙ append_assoc part.0 begins.0 more), part.2));
    unread = cut.unread;
    rose = cut.rose;
  }

  -- a command after a reset that was not written is not sent
  pub refused_again : (old new : Sides) (fault : LinkFault) (events : List Event) (command : List ℕ) → Conveyed hears tells old new (Some fault) events
      → Unanswered hears tells old new (Some fault) events command
  refused_again old new WriteFault events command cut = cut_more old new (sent_by events) (command_line command) cut
  refused_again old new _ events command none = absurd none

  -- nor is a further reset
  pub reset_again : (old new : Sides) (fault : LinkFault) (events : List Event) → Conveyed hears tells old new (Some fault) events
      → Conveyed hears tells old new (Some fault) (events ++ Reset ∷ [])
  reset_again old new WriteFault events cut =
      subst (λ (bytes : List ℕ). CutShort tells old new bytes) (flat_map_more event_line [] events Reset) (cut_more old new (sent_by events) reset_line cut)
  reset_again old new (BadReply n) events none = absurd none
  reset_again old new _ events none = absurd none

  -- a reset that is not written
  pub reset_cut : (old mid new : Sides) (events : List Event) → Exchanged hears tells old mid events
      → (tells → (n : ℕ) × (new.commands.written ≡ mid.commands.written ++ take n reset_line)) → new.replies.faults ≡ mid.replies.faults
      → Rose mid.commands.faults new.commands.faults → CutShort tells old new (sent_by (events ++ Reset ∷ []))
  reset_cut old mid new events before wrote unread rose =
      subst (λ (bytes : List ℕ). CutShort tells old new bytes) (flat_map_more event_line [] events Reset) (cut_after old mid new events before reset_line wrote unread rose)
