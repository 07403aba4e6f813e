-- The names that the contracts here cite, passed on from one place. Declares nothing.
pub use Rattle.apdu_core.specs.Apdu.{apdu_of}
pub use Rattle.arrayvec.specs.ArrayVec.{array_vec_len}
pub use Rattle.policy_machine.specs.PutKey.{check_value, key_field, sealed_size}
pub use Rattle.script_lines.specs.Channel.{SaysChannel, channel_number}
pub use Rattle.script_lines.specs.Control.{SaysControl, SaysWant}
pub use Rattle.script_lines.specs.Delete.{SaysDelete, deleting}
pub use Rattle.script_lines.specs.Exchange.{SaysExchange}
pub use Rattle.script_lines.specs.Extradite.{SaysExtradite, extraditing}
pub use Rattle.script_lines.specs.Install.{SaysInstall, SpellsParameters, SpellsPrivileges, install_p1, installing}
pub use Rattle.script_lines.specs.Keys.{SpellKeys, SpellTrio, SpellsKey}
pub use Rattle.script_lines.specs.Life.{MayName, SaysLife, aid_or_none, changing_life}
pub use Rattle.script_lines.specs.Line.{HasNoForm, OneLine, SaysLine, SaysSending, SaysSent, sent_as}
pub use Rattle.script_lines.specs.Listing.{MayBegin, SaysListing, listing_command}
pub use Rattle.script_lines.specs.Load.{SaysContent, SaysLoad, SpellsCount, SpellsDomain, beginning_load, block_command, block_element, content_bytes, hash_of, hash_word, length_field}
pub use Rattle.script_lines.specs.Open.{SaysOpen}
pub use Rattle.script_lines.specs.PutKey.{SaysPutKey, SpellNewKeys, SpellOne, SpellSized, key_list, put_key_p2, putting_keys, sent_under}
pub use Rattle.script_lines.specs.Quiet.{is_quiet}
pub use Rattle.script_lines.specs.Round.{application_of, challenge_of, digits_of, lines_of, round_file}
pub use Rattle.script_lines.specs.Selectable.{SaysSelectable, making_selectable}
pub use Rattle.script_lines.specs.Send.{IsPlain, SaysSend, SpellsPlain, command_of_plain}
pub use Rattle.script_lines.specs.TokenKey.{SaysTokens, token_verb}
pub use Rattle.script_lines.specs.Tokens.{install_command, sized_key, token_made}
pub use Rattle.script_lines.specs.Verb.{verb_word}
pub use Rattle.script_lines.specs.Words.{Reads, SpellsByte, remaining_words}
pub use Rattle.script_lines.specs.Workload.{WorkloadLines}
pub use Rattle.sha1.specs.Sha1.{sha1}
pub use Rattle.sha2.specs.Sha256.{sha256}
pub use Rattle.tokens_receipts.specs.Receipt.{with_length}
