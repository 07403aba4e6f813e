-- An Executable Load File whose AID is free can be put into a registry.
use Rattle.std.proofs.Common.{◌≡◌, None, refl, sym}
use Rattle.std.proofs.lemmas.Cmp.{nat_list_cmp_total, on_total}
use Rattle.card_types.proofs.ChangeExists.{put_in}
use Rattle.card_types.proofs.LeastOfList.{none_fits, sorted_by_name}
use Rattle.card_types.proofs.SameAid.{aid_equal_same, same_aid_decides}
use Rattle.card_types.specs.Aid.{aid_order, same_aid}
use Rattle.card_types.specs.Registry.{IsAscending, LoadFile, Registry, file_named}
use Rattle.card_types.specs.RegistryChange.{IsFileAdded}

pub file_put : (registry : Registry) (file : LoadFile) → IsAscending registry → file_named registry file.aid ≡ None
    → (changed : Registry) × IsFileAdded file registry changed
file_put registry file ascending free =
    let put = put_in (λ (a b : LoadFile). aid_order a.aid b.aid) (on_total (λ (f : LoadFile). f.aid) nat_list_cmp_total) file registry.files
    (sorted_by_name aid_order (λ (f : LoadFile). f.aid) registry.files ascending.files)
    (λ other there tied. none_fits (λ (f : LoadFile). same_aid f.aid file.aid) registry.files free other there
    ((same_aid_decides other.aid file.aid).1 (sym (aid_equal_same file.aid other.aid tied)))) in
    (record registry { files = put.0 }, record { files = put.1; same = refl })
