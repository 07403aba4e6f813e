-- For the code inside. What GET DATA finds in the slots of a card.
use Rattle.std.specs.Prelude.{◌≡◌, ◌≢◌, ℕ, ◌<◌, None}
use Rattle.bertlv.specs.Tag.{IsTag}
use Rattle.card_types.specs.Search.{IsLeast}
use Rattle.card_types.specs.Registry.{Registry}
use Rattle.card_types.specs.Represents.{domain_aid}
use Rattle.card_types.specs.declared.tables.Tables.{Tables}
use Rattle.scp03_card.specs.Offer.{counter_bytes}
use Rattle.policy_machine.specs.GetData.{IsDataObject, IsSequenceCounter}
use Rattle.policy_rules.specs.declared.get_data.Datum.{Datum}
use Rattle.policy_rules.specs.declared.get_data.Datum.TheVariants.{Keys, Counter, Object}
use Rattle.policy_slots.specs.KeyOrder.{follows, name_order}

-- what was found for a tag, for the domain in a slot: its first key, the sequence counter, or a data object
abbrev pub IsFor : Tables → Registry → ℕ → ℕ → Datum → Type 0
IsFor tables said domain tag (Keys first) =
    (tag ≡ 0xE0) × (first.now.owner ≡ domain) × ((slot : ℕ) × IsLeast (follows domain None) name_order tables.keys.items slot first.now)
IsFor tables said domain tag (Counter number) =
    (tag ≡ 0xC1) × (number < 0x1000000) × IsSequenceCounter said (domain_aid tables.entries.items domain) (counter_bytes number)
IsFor tables said domain tag (Object object) =
    (tag ≢ 0xE0) × (tag ≢ 0xC1) × (object.now.tag ≡ tag) × IsTag tag
    × IsDataObject said (domain_aid tables.entries.items domain) tag object.now.value.items
