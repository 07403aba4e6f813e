-- For the code inside. The entry that INSTALL [for install] makes, by slots.
use Rattle.std.specs.Prelude.{ℕ, false, if◌then◌else◌}
use Rattle.card_types.specs.declared.life.Life.TheVariants.{Installed, Selectable}
use Rattle.card_types.specs.declared.tables.Entry.{Entry}
use Rattle.content_rules.specs.declared.install_application.InstallRequest.{InstallRequest}

-- in the domain and from the Executable Load File in these slots
abbrev pub slot_made : InstallRequest → ℕ → ℕ → Entry
slot_made request domain file = record {
  aid = request.aid;
  domain = domain;
  file = file;
  «module» = request.«module»;
  life = record { life = if request.selectable then Selectable else Installed; locked = false };
  privileges = request.privileges;
  receipts = 0;
}
