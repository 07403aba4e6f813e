-- Fields with their lengths before them, and what a receipted reply spells.
use Rattle.std.proofs.Common.{◌≡◌, ℕ, List, ◌++◌, length, get_or, take, drop, refl, sym, ap, ◌∙◌, append_assoc}
use Rattle.std.proofs.lemmas.List.{drop_at, take_at}
use Rattle.tokens_receipts.specs.Receipt.{with_length}
use Rattle.receipt_desk.specs.Judgement.{Confirmation, Spells}

module _ (a b x y : List ℕ) (same : with_length a ++ x ≡ with_length b ++ y) where
  as_long : length a ≡ length b
  as_long = ap (λ (s : List ℕ). get_or s 0 0) same

  both : a ++ x ≡ b ++ y
  both = ap (drop 1) same

  pub same_field : a ≡ b
  same_field = sym (take_at a x (length a) refl) ∙ ap (take (length a)) both ∙ take_at b y (length a) (sym as_long)

  pub same_rest : x ≡ y
  same_rest = sym (drop_at a x (length a) refl) ∙ ap (drop (length a)) both ∙ drop_at b y (length a) (sym as_long)

-- what stands in a reply that is spelled
module _ (reply : List ℕ) (is : Confirmation) (spells : Spells is reply) (inner : List ℕ) (outer_is : reply ≡ with_length inner) where
  inner_is : inner ≡ with_length is.code ++ (with_length is.number ++ with_length is.unique)
  inner_is = ap (drop 1) (sym outer_is ∙ spells.is) ∙ append_assoc (with_length is.code) (with_length is.number) (with_length is.unique)

  module _ (code rest : List ℕ) (cut : inner ≡ with_length code ++ rest) where
    pub code_is : code ≡ is.code
    code_is = same_field code is.code rest (with_length is.number ++ with_length is.unique) (sym cut ∙ inner_is)

    pub rest_is : rest ≡ with_length is.number ++ with_length is.unique
    rest_is = same_rest code is.code rest (with_length is.number ++ with_length is.unique) (sym cut ∙ inner_is)

    module _ (number last : List ℕ) (cut_again : rest ≡ with_length number ++ last) where
      pub number_is : number ≡ is.number
      number_is = same_field number is.number last (with_length is.unique) (sym cut_again ∙ rest_is)

      pub last_is : last ≡ with_length is.unique
      last_is = same_rest number is.number last (with_length is.unique) (sym cut_again ∙ rest_is)

-- a reply spells one confirmation
pub one_spelling : (reply : List ℕ) (a b : Confirmation) → Spells a reply → Spells b reply → a ≡ b
one_spelling reply a b x y =
    let inner = with_length b.code ++ with_length b.number ++ with_length b.unique in
    let rest = with_length b.number ++ with_length b.unique in
    let cut = append_assoc (with_length b.code) (with_length b.number) (with_length b.unique) in
    let code = code_is reply a x inner y.is b.code rest cut in
    let number = number_is reply a x inner y.is b.code rest cut b.number (with_length b.unique) refl in
    let unique = ap (drop 1) (last_is reply a x inner y.is b.code rest cut b.number (with_length b.unique) refl) in
    (λ i. record { code = sym code i; number = sym number i; unique = sym unique i })

-- a reply that is cut so is spelled
pub spelled : (reply inner code rest number last unique : List ℕ) → reply ≡ with_length inner → inner ≡ with_length code ++ rest
    → rest ≡ with_length number ++ last → last ≡ with_length unique → length code ≡ 16 → length number ≡ 2
    → Spells (record { code = code; number = number; unique = unique }) reply
spelled reply inner code rest number last unique outer_is cut cut_again last_is sixteen two = record {
  code = sixteen;
  number = two;
  is = outer_is ∙ ap with_length (cut ∙ ap (λ (l : List ℕ). with_length code ++ l) (cut_again ∙ ap (λ (l : List ℕ). with_length number ++ l) last_is)
      ∙ sym (append_assoc (with_length code) (with_length number) (with_length unique)));
}
