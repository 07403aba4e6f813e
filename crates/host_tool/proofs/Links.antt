-- What a link over a pair of streams has conveyed after one more command or reset.
use Rattle.std.proofs.Common.{◌≡◌, ℕ, List, [], ◌∷◌, ◌++◌, take, Option, None, Some, Ok, Err, sym, subst}
use Rattle.faults.specs.Faults.{Rose}
use Rattle.script_tool.specs.Talk.{Answered, Event, Reset}
use Rattle.host_tool.proofs.Sent.{asked_conveyed, asked_refused, exchanged_reset, refused_again, reset_again, reset_cut}
use Rattle.host_tool.specs.Asked.{AsksAnswered}
use Rattle.host_tool.specs.Conveyed.{Conveyed, Exchanged, Unanswered, Sides}
use Rattle.host_tool.specs.Exchange.{reset_line}
use Rattle.host_tool.specs.declared.fault.LinkFault.{LinkFault}
use Rattle.host_tool.specs.declared.fault.LinkFault.TheVariants.{WriteFault}

module _ (hears tells : Type 0) (old mid : Sides) (events : List Event) (why : Option LinkFault) (told : Conveyed hears tells old mid why events) where
  -- it has failed before
  pub failed_refuses : (fault : LinkFault) (command : List ℕ) → why ≡ Some fault → Unanswered hears tells old mid (Some fault) events command
  failed_refuses fault command is =
      refused_again hears tells old mid fault events command (subst (λ (w : Option LinkFault). Conveyed hears tells old mid w events) is told)

  pub failed_resets : (fault : LinkFault) → why ≡ Some fault → Conveyed hears tells old mid why (events ++ Reset ∷ [])
  failed_resets fault is =
      subst (λ (w : Option LinkFault). Conveyed hears tells old mid w (events ++ Reset ∷ [])) (sym is)
      (reset_again hears tells old mid fault events (subst (λ (w : Option LinkFault). Conveyed hears tells old mid w events) is told))

  -- it has not
  sound : why ≡ None → Exchanged hears tells old mid events
  sound is = subst (λ (w : Option LinkFault). Conveyed hears tells old mid w events) is told

  pub link_answers : (new : Sides) (command reply : List ℕ) → why ≡ None → AsksAnswered hears tells mid new command reply (Ok tt)
      → Conveyed hears tells old new why (events ++ Answered command reply ∷ [])
  link_answers new command reply is asks =
      subst (λ (w : Option LinkFault). Conveyed hears tells old new w (events ++ Answered command reply ∷ [])) (sym is)
      (asked_conveyed hears tells old mid new events (sound is) command reply asks)

  pub link_refuses : (new : Sides) (command reply : List ℕ) (fault : LinkFault) → why ≡ None → AsksAnswered hears tells mid new command reply (Err fault)
      → Unanswered hears tells old new (Some fault) events command
  link_refuses new command reply fault is asks = asked_refused hears tells old mid new events (sound is) command reply fault asks

  pub link_resets : (new : Sides) → why ≡ None → (tells → new.commands.written ≡ mid.commands.written ++ reset_line) → (tells → new.commands.handed_on ≡ new.commands.written)
      → new.replies ≡ mid.replies → new.reading ≡ mid.reading → new.commands.faults ≡ mid.commands.faults → Conveyed hears tells old new why (events ++ Reset ∷ [])
  link_resets new is wrote handed replies reading faults =
      subst (λ (w : Option LinkFault). Conveyed hears tells old new w (events ++ Reset ∷ [])) (sym is)
      (exchanged_reset hears tells old mid new events (sound is) wrote handed replies reading faults)

  pub link_cuts : (new : Sides) → why ≡ None → (tells → (n : ℕ) × (new.commands.written ≡ mid.commands.written ++ take n reset_line))
      → new.replies.faults ≡ mid.replies.faults → Rose mid.commands.faults new.commands.faults → Conveyed hears tells old new (Some WriteFault) (events ++ Reset ∷ [])
  link_cuts new is wrote unread rose = reset_cut hears tells old mid new events (sound is) wrote unread rose
