-- A talk that goes on.
use Rattle.std.proofs.Common.{List, [], ◌∷◌, ◌++◌, refl, sym, subst, inl, inr}
use Rattle.script_tool.specs.Talk.{Talk, Ends, Resets, Sends, Takes, Event, Reset, Answered, Goes}

pub goes_nothing : (talk : Talk) → Goes talk [] talk
goes_nothing (Takes session reply rest) = inl (refl, refl)
goes_nothing _ = refl

pub goes_on : (a : Talk) (events more : List Event) (b c : Talk) → Goes a events b → Goes b more c → Goes a (events ++ more) c
goes_on (Ends printed host) [] more b c x y = subst (λ t. Goes t more c) x y
goes_on (Ends printed host) (event ∷ events) more b c x y = absurd x
goes_on (Resets rest) [] more b c x y = subst (λ t. Goes t more c) x y
goes_on (Resets rest) (Reset ∷ events) more b c x y = goes_on rest events more b c x y
goes_on (Resets rest) (Answered command reply ∷ events) more b c x y = absurd x
goes_on (Sends bytes rest) [] more b c x y = subst (λ t. Goes t more c) x y
goes_on (Sends bytes rest) (Reset ∷ events) more b c x y = absurd x
goes_on (Sends bytes rest) (Answered command reply ∷ events) more b c x y = (x.0, goes_on (rest reply) events more b c x.1 y)
goes_on (Takes session reply rest) events more b c (inl x) y =
    subst (λ (es : List Event). Goes (Takes session reply rest) (es ++ more) c) (sym x.0) (subst (λ t. Goes t more c) x.1 y)
goes_on (Takes session reply rest) events more b c (inr x) y = inr (x.0, x.1, goes_on (rest x.0) events more b c x.2 y)
