-- The session keys of an offer give its values.
use Rattle.std.proofs.Common.{◌≡◌, ℕ, ◌*◌, ◌/◌, ◌%◌, ◌^◌, ◌≤◌, List, [], ◌∷◌, ◌++◌, length, sym, ap, ◌∙◌, get_or, arith}
use Rattle.std.specs.Int.{w32, to_be_bytes}
use Rattle.card_types.specs.Level.{code_of}
use Rattle.card_types.specs.declared.level.Level.{Level}
use Rattle.cmac_kdf.specs.Blocks.{zero_block}
use Rattle.cmac_kdf.specs.Cmac.{cmac}
use Rattle.cmac_kdf.specs.Derivation.{kdf}
use Rattle.scp03_card.specs.Offer.{Offer, context, s_enc, s_mac, s_rmac, card_cryptogram, counter_bytes, host_cryptogram}
use Rattle.scp03_card.specs.Session.{chain, chain_of, session_from}
use Rattle.scp03_card.specs.Kept.{HasSessionKeys, Keys}

module _ (keys : Keys) (offer : Offer) (has : HasSessionKeys keys offer) where
  pub kept_card_cryptogram : (host card : List ℕ) → host ≡ offer.host → card ≡ offer.card → kdf keys.mac 0x00 64 (host ++ card) ≡ card_cryptogram offer
  unfolding card_cryptogram
  kept_card_cryptogram host card eh ec = (λ i. kdf (has.mac i) 0x00 64 (eh i ++ ec i))

  pub kept_host_cryptogram : (host card : List ℕ) → host ≡ offer.host → card ≡ offer.card → kdf keys.mac 0x01 64 (host ++ card) ≡ host_cryptogram offer
  unfolding host_cryptogram
  kept_host_cryptogram host card eh ec = (λ i. kdf (has.mac i) 0x01 64 (eh i ++ ec i))

  -- the chaining value after EXTERNAL AUTHENTICATE
  pub kept_first_chain : (level : Level) (c x : List ℕ) → x ≡ host_cryptogram offer → c ≡ code_of level ∷ []
      → cmac keys.mac (zero_block ++ (0x84 ∷ 0x82 ∷ c ++ 0x00 ∷ 0x10 ∷ []) ++ x) ≡ chain_of (session_from offer level)
  unfolding chain
  kept_first_chain level c x ex ec = (λ i. cmac (has.mac i) (zero_block ++ (0x84 ∷ 0x82 ∷ ec i ++ 0x00 ∷ 0x10 ∷ []) ++ ex i))

-- a session key, of the length of its static key
module _ (offer : Offer) (n : ℕ) (c : List ℕ) (ec : c ≡ context offer) where
  pub is_s_enc : (k x : List ℕ) → k ≡ offer.enc → length offer.enc ≡ n → x ≡ kdf k 0x04 (8 * n) c → x ≡ s_enc offer
  unfolding s_enc
  is_s_enc k x ek ln ex = ex ∙ (λ i. kdf (ek i) 0x04 (8 * sym ln i) (ec i))

  pub is_s_mac : (k x : List ℕ) → k ≡ offer.mac → length offer.mac ≡ n → x ≡ kdf k 0x06 (8 * n) c → x ≡ s_mac offer
  unfolding s_mac
  is_s_mac k x ek ln ex = ex ∙ (λ i. kdf (ek i) 0x06 (8 * sym ln i) (ec i))

  pub is_s_rmac : (k x : List ℕ) → k ≡ offer.mac → length offer.mac ≡ n → x ≡ kdf k 0x07 (8 * n) c → x ≡ s_rmac offer
  unfolding s_rmac
  is_s_rmac k x ek ln ex = ex ∙ (λ i. kdf (ek i) 0x07 (8 * sym ln i) (ec i))

-- the last three of a counter's four bytes
pub last_three : (n : ℕ) (b : List ℕ) → n ≤ 0xFFFFFF → b ≡ to_be_bytes w32 n → get_or b 1 0 ∷ get_or b 2 0 ∷ get_or b 3 0 ∷ [] ≡ counter_bytes n
last_three n b most eb =
    let high : n / 2 ^ 16 % 2 ^ 8 ≡ n / 0x10000 = omega arith in
    ap (λ (x : List ℕ). get_or x 1 0 ∷ get_or x 2 0 ∷ get_or x 3 0 ∷ []) eb ∙ (λ i. high i ∷ n / 2 ^ 8 % 2 ^ 8 ∷ n % 2 ^ 8 ∷ [])
