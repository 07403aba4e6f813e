use Rattle.std.proofs.Common.{[], ◌+◌, ◌≤◌, List, None, Some, length, refl, sym, subst, ◌∙◌, rules, ◌≡◌, ℕ, inl, ap}
use Rattle.std.specs.Prelude.{All}
use Rattle.std.proofs.lemmas.List.Elements.{All-head}
use Rattle.card_core.specs.Prelude.{ActsIn, Admitted, Apdu, AreElements, Element, HasObjects, IsArranged, IsInOrder, IsManaged, IsObject, Judges, StoreDataField, TakesCommand, command_form, has_object_in, managed_store_data, new_tags, object_order, object_with, things_in, with_data, with_objects}
use Rattle.card_types.specs.declared.limits.TheConstants.{OBJECTS}
use Rattle.policy_machine.proofs.StoreDataElements.{elements_after, none_left}
use Rattle.card_core.proofs.Answered.{entries_selected}
use Rattle.card_core.proofs.Cards.{in_order}
use Rattle.card_core.proofs.FreePages.{files_free}
use Rattle.card_core.proofs.Managing.{refusal_managed, replied_managed}
use Rattle.card_core.proofs.ObjectSlots.{room_first}
use Rattle.card_core.proofs.ObjectsPut.{ArePut, all_same, are_cards_after, at_most, none_put, put_after, same_after}
use Rattle.apdu_core.specs.declared.reply.Status.{Status}
use Rattle.card_types.specs.declared.tables.Tables.{Tables}
use Rattle.card_types.specs.Registry as registry
use Rattle.card_core.proofs.store_data.StoreRequestManagedRequest.manage.Goals as goal

-- the data objects of a command
objects_of : (objects : List ℕ) (command : Apdu) → objects ≡ command.body → StoreDataField command.body
    → (elements : List Element) × AreElements elements objects × HasObjects command.body elements
objects_of objects command same asks = (asks.0, subst (AreElements asks.0) (sym same) asks.1.spelled, asks.1)

-- once all are put, the command has done what it does
all_managed : (page : ℕ → List ℕ) (before now : Tables) (domain : ℕ) (admitted : Admitted) → ActsIn page before domain admitted → TakesCommand (command_form managed_store_data) admitted.command
    → Judges admitted None → (elements : List Element) → HasObjects admitted.command.body elements → ArePut before now domain elements [] → (status : Status) → status.0 ≡ 0x9000
    → IsManaged admitted page now [] status
all_managed page before now domain admitted acts takes judges elements has put status done =
    let said = admitted.at.registry in
    let part = put.shows page said acts.says acts.well in
    let things = part.rest ∙ ap (λ (owner : List ℕ). with_objects owner said.objects elements) (sym acts.on) in
    replied_managed managed_store_data (λ holds here. inl here) admitted takes elements has (with_data said part.objects) (record {
      objects = part.objects;
      arranged = subst (λ (os : List registry.Object). IsArranged object_order os part.objects) things part.arranged;
      registry = refl;
    }) judges (λ no. no) page now part.says [] refl status done

pub judge_store_data-requires : goal.judge_store_data-requires
judge_store_data-requires g c = record { in_order = subst IsInOrder (sym c.tables.ensures.tables) (in_order c.args.records.now.tables c.requires.cards) }

pub returns-in_err-judge_store_data-clause-done : goal.returns-in_err-judge_store_data-clause-done
returns-in_err-judge_store_data-clause-done g c page admitted acts says channels request holds =
    let found = c.in_err-judge_store_data.field-0.0 in
    let first = c.in_err-judge_store_data.ensures.refused page admitted (subst (λ t. ActsIn page t c.args.acting.now.domain admitted) (sym c.tables.ensures.tables) acts) request in
    refusal_managed admitted page c.args.records.now.tables c.args._reply.now.items c.from_residual.result found c.from_residual.ensures.1
    first c.requires.empty

pub loop-element-init : goal.loop-element-init
loop-element-init g c = record {
  flash = refl;
  live = c.requires.live;
  frames = rw c.requires.clean (search rules);
  same = all_same c.args.records.now.tables;
  put = λ elements are forms. (
    elements,
    are,
    none_put c.args.records.now.tables c.args.acting.now.domain elements forms (rw c.tables.ensures.tables at (c.in_ok-judge_store_data.ensures.roomy elements are)),
  );
}

pub put_object-requires : goal.put_object-requires
put_object-requires g c =
    let element : Element = record { tag = c.in-Ok.element.tag; value = c.in-Ok.element.value.now } in
    let formed = c.requires.formed in
    let elements = objects_of c.args.self.now.objects.now formed.0 formed.1.means formed.1.form.2 in
    let behind = c.loop-element.invariant.put elements.0 elements.1 elements.2.each in
    let next = elements_after behind.0 element.tag element.value c.in-Ok.after.now c.loop-element.rest.now behind.1 c.in-Ok.ensures.found in
    let slots = c.loop-element.records.tables.objects.items in
    let P = λ (e : Element). IsObject e.tag (length e.value) in
    record {
      live = c.loop-element.invariant.live;
      frames = c.loop-element.invariant.frames;
      size = at_most element.tag (length element.value) (All-head P element next.0 (subst (All P) next.1 behind.2.forms));
      room = room_first slots c.args.acting.now.domain element next.0
          (subst (λ (es : List Element). length (things_in slots) + new_tags (has_object_in slots c.args.acting.now.domain) es ≤ OBJECTS) next.1 behind.2.room);
    }

pub loop-element-preserved : goal.loop-element-preserved
loop-element-preserved g c =
    let element = c.in-Ok.element in
    let before = c.args.records.now.tables in
    let now = c.loop-element.records.tables in
    let after = c.put_object.new.records.tables in
    let puts = c.put_object.ensures.put in
    let same = c.loop-element.invariant.same in
    record {
      flash = c.put_object.ensures.same.0 ∙ c.loop-element.invariant.flash;
      live = c.put_object.ensures.same.1;
      frames = c.put_object.ensures.frames;
      same = same_after before now after puts.slot (Some (object_with c.args.acting.now.domain element.tag element.value.now)) same puts.set;
      put = λ elements are forms.
          (let behind = c.loop-element.invariant.put elements are forms in
          let next = elements_after behind.0 element.tag element.value.now c.in-Ok.after.now c.loop-element.rest.now behind.1 c.in-Ok.ensures.found in (
            next.0,
            next.2,
            put_after before now after c.args.acting.now.domain c.requires.domain same c.tables.ensures.roomy.slots.objects (record { tag = element.tag; value = element.value.now }) puts elements next.0
                (subst (ArePut before now c.args.acting.now.domain elements) next.1 behind.2),
          ));
    }

pub returns-clause-done : goal.returns-clause-done
returns-clause-done g c page admitted acts says channels request holds =
    let before = c.args.records.now.tables in
    let now = c.loop-element.records.tables in
    let elements = objects_of c.args.self.now.objects.now admitted.command request.means request.form.2 in
    let behind = c.loop-element.invariant.put elements.0 elements.1 elements.2.each in
    let none = none_left behind.0 c.loop-element.rest.now behind.1 c.in_default.ensures.only in
    let first = c.in_ok-judge_store_data.ensures.passed page admitted (subst (λ t. ActsIn page t c.args.acting.now.domain admitted) (sym c.tables.ensures.tables) acts) request in
    rw c.requires.empty (all_managed page before now c.args.acting.now.domain admitted acts request.form
    first
    elements.0 elements.2 (subst (ArePut before now c.args.acting.now.domain elements.0) none behind.2) _ refl)

pub returns-clause-cards : goal.returns-clause-cards
returns-clause-cards g c =
    let before = c.args.records.now.tables in
    let now = c.loop-element.records.tables in
    let formed = c.requires.formed in
    let elements = objects_of c.args.self.now.objects.now formed.0 formed.1.means formed.1.form.2 in
    let behind = c.loop-element.invariant.put elements.0 elements.1 elements.2.each in
    let none = none_left behind.0 c.loop-element.rest.now behind.1 c.in_default.ensures.only in
    are_cards_after before now c.args.acting.now.domain elements.0 c.loop-element.invariant.same (subst (ArePut before now c.args.acting.now.domain elements.0) none behind.2) c.requires.cards

pub returns-clause-selected : goal.returns-clause-selected
returns-clause-selected g c = entries_selected c.args.acting.now.live.now c.args.records.now.tables.entries.items c.loop-element.records.tables.entries.items (c.loop-element.invariant.same.entries)

pub returns-clause-free : goal.returns-clause-free
returns-clause-free g c = files_free c.args.records.now.tables c.loop-element.records.tables (c.loop-element.invariant.same.files)
