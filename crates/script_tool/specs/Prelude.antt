-- The names that the contracts here cite, passed on from one place. Declares nothing.
pub use Rattle.apdu_core.specs.Apdu.{Apdu, Short, apdu_of}
pub use Rattle.faults.specs.Faults.{HasCause, Rose}
pub use Rattle.hex.specs.Hex.{encode_lower}
pub use Rattle.policy_machine.specs.Run.{Command, Input, Reset}
pub use Rattle.policy_machine.specs.State.{State, powered_on}
pub use Rattle.scp03_card.specs.Kept.{RepresentsSession}
pub use Rattle.scp03_card.specs.Offer.{Offer}
pub use Rattle.scp03_card.specs.Session.{Session, session_from}
pub use Rattle.scp03_host.specs.Begin.{ShowsKeys, answer_to, offer_from_reply}
pub use Rattle.scp03_host.specs.Unwrapped.{HasRightMac, IsTooShort, Unwraps}
pub use Rattle.scp03_host.specs.Wrapped.{having_sent, room_for, wrapped_command}
pub use Rattle.script_lines.specs.Channel.{channel_number}
pub use Rattle.script_lines.specs.Command.{command_bytes}
pub use Rattle.script_lines.specs.Delete.{deleting}
pub use Rattle.script_lines.specs.Extradite.{extraditing}
pub use Rattle.script_lines.specs.Install.{installing}
pub use Rattle.script_lines.specs.Life.{changing_life}
pub use Rattle.script_lines.specs.Line.{HasNoForm, SaysLine}
pub use Rattle.script_lines.specs.Listing.{listing_command}
pub use Rattle.script_lines.specs.Load.{content_bytes}
pub use Rattle.script_lines.specs.PutKey.{putting_keys}
pub use Rattle.script_lines.specs.Select.{selecting}
pub use Rattle.script_lines.specs.Selectable.{making_selectable}
pub use Rattle.script_lines.specs.Send.{command_of_plain}
pub use Rattle.script_lines.specs.Store.{storing}
pub use Rattle.script_tool.specs.Closed.{ClosedIsSilent, RefusalsEnd}
pub use Rattle.script_tool.specs.Count.{FewCommands}
pub use Rattle.script_tool.specs.Host.{Host, after_reset, first_host, with_own}
pub use Rattle.script_tool.specs.InPlain.{has_selected, playing_raw, playing_select, send_in_plain}
pub use Rattle.script_tool.specs.InSession.{Rest, awaiting, for_session, protecting, refusal_word, sending, with_bad_mac}
pub use Rattle.script_tool.specs.Kept.{MayBeSession, RefusesAs, RepresentsHost, kept_on, no_kept, printed_of, with_kept}
pub use Rattle.script_tool.specs.Lead.{LeadsTo}
pub use Rattle.script_tool.specs.Link.{Breaks, Conveys}
pub use Rattle.script_tool.specs.Loading.{loading_all, playing_load}
pub use Rattle.script_tool.specs.Once.{OneTalk}
pub use Rattle.script_tool.specs.Opening.{after_authenticate, offer_under, playing_open, updating, with_field}
pub use Rattle.script_tool.specs.Play.{FitsBlocks, playing, playing_control, playing_exchange, playing_put_key, remembering, wanting}
pub use Rattle.script_tool.specs.Played.{Continues, ContinuesWith, IsPlayed, IsReadInPlain, Plays}
pub use Rattle.script_tool.specs.Printed.{kind_played, may_be_status, printed_text, status_digits, status_printed, unless_quiet, word_text}
pub use Rattle.script_tool.specs.Step.{StepPlays}
pub use Rattle.script_tool.specs.Talk.{Answered, Event, Talk}
