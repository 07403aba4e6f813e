use Rattle.std.proofs.Common.{refl, ap, ◌∙◌}
use Rattle.rec_store.proofs.ChangedTables.{card_life_set}
use Rattle.rec_store.proofs.Staging.{frame_for, numbers_anew}
use Rattle.rec_store.proofs.records.Records.set_card_life.Goals as goal

pub stage-requires-clause-room : goal.stage-requires-clause-room
stage-requires-clause-room g c = frame_for c.self.inside.store.staged c.args.self.now.staged 0 (ap (λ r. r.staged) c.self.view_is) c.requires.frame

pub invariant_of-self : goal.invariant_of-self
invariant_of-self g c =
    card_life_set g.F.Flash c.self.inside.store c.stage.new.self 0 (record { bytes = c.superblock.result }) c.stage.ensures c.self.inside.tables c.self.invariant (ap (λ r. r.live) c.self.view_is ∙ c.requires.live) c.args.life refl c.superblock.ensures

pub returns-clause-staged : goal.returns-clause-staged
returns-clause-staged g c = numbers_anew c.self.inside.store c.stage.new.self 0 (record { bytes = c.superblock.result }) c.stage.ensures c.args.self.now.staged (ap (λ r. r.staged) c.self.view_is)
