-- The names that the contracts here cite, passed on from one place. Declares nothing.
pub use Rattle.apdu_core.specs.Reply.{status_bytes}
pub use Rattle.arrayvec.specs.ArrayVec.{array_vec_len}
pub use Rattle.cap_pack.specs.Held.{IsCap, pack_of}
pub use Rattle.cap_pack.specs.Input.{joining, within_cap_limit}
pub use Rattle.cap_pack.specs.Said.{stop_text}
pub use Rattle.card_check.specs.IsCard.{HasPages}
pub use Rattle.card_core.specs.Card.{Answers, CardRepresents, LeavesEither}
pub use Rattle.card_core.specs.Kept.{AreCards}
pub use Rattle.card_types.proofs.KeyNames.{counter_order_total, key_order_total}
pub use Rattle.card_types.proofs.ObjectNames.{object_order_total}
pub use Rattle.card_types.specs.Aid.{aid_order}
pub use Rattle.card_types.specs.Registry.{Counter, Key, Registry, counter_order, key_order, object_order}
pub use Rattle.card_types.specs.Represents.{IsInOrder, Represents, counter_of, domain_aid, entry_of, file_aid, file_of, keeps_counter, key_of, object_of, thing_in}
pub use Rattle.card_types.specs.Search.{IsLeast, IsLeastFound, NoneFits}
pub use Rattle.card_types.specs.Well.{Well}
pub use Rattle.faults.specs.Faults.{HasCause, Rose}
pub use Rattle.gp_tool.specs.Around.{Around, around}
pub use Rattle.gp_tool.specs.Cap.{CapCourse, CapEnds, CapEndsAt, WritesJoined, pack_line}
pub use Rattle.gp_tool.specs.CardEnd.{Comes}
pub use Rattle.gp_tool.specs.Compare.{ComparesLine, KeepsLine, SkipsSpaces, keeping}
pub use Rattle.gp_tool.specs.Counted.{bounded_count}
pub use Rattle.gp_tool.specs.Desk.{DeskEnds}
pub use Rattle.gp_tool.specs.Device.{HoldsCard, refusal_status}
pub use Rattle.gp_tool.specs.Effects.{LinePlace}
pub use Rattle.gp_tool.specs.Ends.{EndCause, Flushes}
pub use Rattle.gp_tool.specs.Flush.{AfterFlush, FlushesLast, IsHandedOn}
pub use Rattle.gp_tool.specs.Form.{FailsCommand, FitsRoom, IsForCard, SpellsInputs, inputs_of}
pub use Rattle.gp_tool.specs.Formatted.{IsFactoryCard}
pub use Rattle.gp_tool.specs.Give.{GivesCard}
pub use Rattle.gp_tool.specs.HostAndCard.{HostAndCard}
pub use Rattle.gp_tool.specs.Laws.{OneEnding, OneLast, OneMill, OneText, OneWritten}
pub use Rattle.gp_tool.specs.LinesApart.{LinesKeepTrees}
pub use Rattle.gp_tool.specs.Listing.{ForText, Writes, WritesOf, comes_past, is_next_file}
pub use Rattle.gp_tool.specs.Mill.{IsCounterText, IsNotMilled, MillEnds, PlaysSome, count_line, summary, workload_line}
pub use Rattle.gp_tool.specs.Milling.{Milled, MillsLine}
pub use Rattle.gp_tool.specs.Replay.{IsForReplay, Replays, Wants, difference}
pub use Rattle.gp_tool.specs.Replies.{Replies, line_end, reason}
pub use Rattle.gp_tool.specs.RunCause.{RunCause}
pub use Rattle.gp_tool.specs.Script.{BreaksScript, IsScript, PlaysScript}
pub use Rattle.gp_tool.specs.Serve.{BreaksLine, IsHeld, ServeCause, ServesLine}
pub use Rattle.gp_tool.specs.Show.{ShowCause, card_line, counter_line, entry_kind, entry_line, entry_names, entry_state, file_content, file_line, file_names, key_line, object_line, registry_text}
pub use Rattle.gp_tool.specs.Shown.{ShowEnds, WritesFront, WritesWhole}
pub use Rattle.gp_tool.specs.Standing.{ServesVerb, kept_in, standing, standing_in}
pub use Rattle.gp_tool.specs.StepsCard.{StepsCard, counting}
pub use Rattle.gp_tool.specs.Tasks.{LacksMemory, NeedsCard, TaskCompletes, TaskEnds}
pub use Rattle.gp_tool.specs.Turn.{EndsWith, GoesOn, Refuses}
pub use Rattle.gp_tool.specs.Verbs.{Completes, EndsFormat, EndsMill, EndsRun, EndsShow, IsDoneStatus, MillsCard, NoFault, RunEnds, ServesCard}
pub use Rattle.gp_tool.specs.Words.{AreOf, EndsInUsage, HaveForm, usage_line}
pub use Rattle.hex.specs.Hex.{decode_of, encode_lower}
pub use Rattle.line_runs.specs.Ends.{IsTakableInput}
pub use Rattle.line_runs.specs.Outside.{IfFaultless, outside}
pub use Rattle.page_journal.specs.Moments.{LeavesOnly}
pub use Rattle.policy_machine.specs.State.{State, powered_on}
pub use Rattle.policy_machine.specs.Step.{Outcome, Step}
pub use Rattle.rec_store.specs.Reopens.{Reopens, load_page}
pub use Rattle.receipt_desk.specs.Audit.{desk_taker, new_audit}
pub use Rattle.script_tool.specs.Host.{Host, first_host}
pub use Rattle.script_tool.specs.Kept.{RepresentsHost}
pub use Rattle.script_tool.specs.Kinds.{is_difference_kind, prints_kind}
pub use Rattle.script_tool.specs.Line.{HasNoForm, SaysLine}
