use Rattle.std.proofs.Common.{◌≡◌, ◌∙◌, ap, refl, ℕ, ◌+◌, ◌-◌, ◌*◌, ◌/◌, length, take, arith}
use Rattle.std.proofs.lemmas.List.{length-take-le, take_rest}
use Rattle.cmac_kdf.proofs.CmacLemmas.{stands_for, state_is, Stands_short, Stands_fed, held_more}
use Rattle.cmac_kdf.proofs.cmac_state.CmacState.feed.Goals as goal

pub returns-then-bytes-room : goal.returns-then-bytes-room
returns-then-bytes-room g c = λ m e.
    let key = g.K.BlockKey.key_bytes c.args.key.now in
    let held : length (take c.self.inside.held_len c.self.inside.held) ≡ c.self.inside.held_len =
    length-take-le c.self.inside.held_len c.self.inside.held (omega (arith, c.self.told.1, c.self.invariant)) in
    state_is key _ _
    (Stands_short key _ _ m c.args.bytes.now (stands_for key _ m (c.self.view_is ∙ e)) (omega (arith, held, c.if-bytes-room.true, c.self.invariant)) refl
    (held_more c.self.inside.held c.args.bytes.now _ c.self.inside.held_len _ c.self.told.1 c.self.invariant c.copy_from_slice.ensures.after))

pub returns : goal.returns
returns g c = λ m e.
    let key = g.K.BlockKey.key_bytes c.args.key.now in
    let last : ℕ = 16 - c.self.inside.held_len + (length c.args.bytes.now - (16 - c.self.inside.held_len) - 1) / 16 * 16 in
    state_is key _ _
    (Stands_fed key c.self.inside.chain c.self.inside.held m c.args.bytes.now c.self.inside.held_len last
    c.self.told.1 c.self.invariant c.if-bytes-room.false refl
    c.copy_from_slice-2.new.self c.copy_from_slice-3.new.self c.absorb.new.chain c.absorb_blocks.new.chain _ _ (stands_for key _ m (c.self.view_is ∙ e))
    c.copy_from_slice-2.ensures.after c.absorb.ensures c.absorb_blocks.ensures
    (c.copy_from_slice-3.ensures.after ∙ take_rest c.args.bytes.now last) (ap length (take_rest c.args.bytes.now last)))
