-- The factory card may take an Executable Load File.
use Rattle.std.proofs.Common.{◌≢◌, ℕ, zero, suc, List, Option, refl, sym, subst, arith}
use Rattle.std.specs.Prelude.{MatchOption}
use Rattle.std.specs.List.Sorted.{IsStrictlySortedBy}
use Rattle.card_types.proofs.FactoryWell.{factory_well}
use Rattle.card_types.proofs.NamedThings.{aid_differs}
use Rattle.card_types.specs.Registry.{IsAscending}
use Rattle.card_types.specs.ChangeLaws.{IsFreeAid}
use Rattle.card_types.specs.Factory.{factory_registry}
use Rattle.card_types.specs.declared.factory.TheConstants.{FACTORY_FILE, ISSUER}
use Rattle.policy_machine.specs.Sound.{IsSound, IsWellChannel, IsWellOffer}
use Rattle.policy_machine.specs.State.{Channel, channel_at}
use Rattle.policy_machine.proofs.FreshChannel.{closed_past_first}
use Rattle.scp03_card.specs.Session.{Session}
use Rattle.cap_pack.specs.FactoryLoads.{FactoryMayLoad, factory_in_session}

factory_ascending : IsAscending factory_registry
unfolding IsStrictlySortedBy
factory_ascending = record {
  entries = (tt, tt);
  files = (tt, tt);
  keys = ((refl, (refl, tt)), ((refl, tt), (tt, tt)));
  counters = (tt, tt);
  objects = tt;
}

module _ (session : Session) (well : IsWellOffer session.offer) where
  channels : (number : ℕ) → MatchOption (channel_at (factory_in_session session).volatile number) (Unit {0}) (IsWellChannel factory_registry)
  channels zero = record { selected = refl; secure_channel = (refl, well) }
  channels (suc number) = subst (λ (c : Option Channel). MatchOption c (Unit {0}) (IsWellChannel factory_registry)) (sym (closed_past_first number)) tt

  sound : IsSound (factory_in_session session)
  sound = record { well = factory_well; ascending = factory_ascending; fits = record { channels = refl; basic = refl; each = channels; load = tt } }

free_of_factory : (file : List ℕ) → file ≢ ISSUER → file ≢ FACTORY_FILE → IsFreeAid factory_registry file
free_of_factory file other another = record {
  no_entry = rw (aid_differs ISSUER file (λ same. other (sym same))) refl;
  no_file = rw (aid_differs FACTORY_FILE file (λ same. another (sym same))) refl;
}

pub factory_may_load : FactoryMayLoad
factory_may_load session file bytes well aid named other another octets some most = record {
  sound = sound session well;
  unlocked = λ same. cc;
  alive = λ same. cc;
  idle = tt;
  on = record { low = omega arith; in_session = refl; manages = refl; unlocked = refl };
  aid = aid;
  named = named;
  free = free_of_factory file other another;
  octets = octets;
  room = record { few = omega arith; some = some; most = most; pages = omega (arith, most) };
}
