-- What is not above what in a total order, and what ties in two orders one after the other.
use Rattle.std.proofs.Common.{◌≡◌, ◌≢◌, refl, sym, ap, ◌∙◌}
use Rattle.std.specs.Cmp.{IsTotalOrder}
use Rattle.std.specs.Ordering.{ordering_reverse, ordering_then}
use Rattle.std.specs.declared.cmp.Ordering.{Ordering}
use Rattle.std.specs.declared.cmp.Ordering.TheVariants.{Less, Equal, Greater}

module _ {T : Type 0} {order : T → T → Ordering} (total : IsTotalOrder order) where
  -- nothing is above itself
  pub not_above_self : (a : T) → order a a ≢ Greater
  not_above_self a above =
      let turned = total.antisymm a a in
      let clash = rw above at turned in cc

  -- below what is not above a third, so not above that
  pub not_above_third : (a b c : T) → order a b ≡ Less → order b c ≢ Greater → order a c ≢ Greater
  not_above_third a b c below not_above above = by (order b c) refl
    where
      by : (r : Ordering) → order b c ≡ r → ⊥
      by Less is = (let chained = total.trans a b c below is in cc)
      by Equal is =
          (let same = total.congr b c a is in
          let up = total.antisymm b a ∙ ap ordering_reverse below in
          let back = total.antisymm a c ∙ ap ordering_reverse (sym same ∙ up) in cc)
      by Greater is = not_above is

  pub not_below : (a b : T) → (order a b ≡ Less → ⊥) → order b a ≢ Greater
  not_below a b least above = least (total.antisymm a b ∙ ap ordering_reverse above)

-- two orders one after the other tie where both do
pub then_equal : (first second : Ordering) → ordering_then first second ≡ Equal → (first ≡ Equal) × (second ≡ Equal)
then_equal Less second tied = cc
then_equal Equal second tied = (refl, tied)
then_equal Greater second tied = cc
