-- For the code inside. What a walk through components meets.
use Rattle.std.specs.Prelude.{◌≡◌, ℕ, ◌≤◌, ◌==◌, List, Bool, false, MatchOption, is_some, if◌then◌else◌, IsTrue, ◌↔◌}
use Rattle.cap_pack.specs.Cap.{NoneRepeats}
use Rattle.cap_pack.specs.Components.{Component, Stands, count_of}
use Rattle.cap_pack.specs.Stops.{RepeatsAt}
use Rattle.cap_pack.specs.declared.component.TheConstants.{APPLETS, HEADER}
use Rattle.cap_pack.specs.declared.outline.AppletComponent.{AppletComponent}
use Rattle.cap_pack.specs.declared.outline.Outline.{Outline}

-- a component with this tag repeats one
abbrev pub repeats : Outline → ℕ → Bool
repeats outline tag = if tag == HEADER then outline.header else if tag == APPLETS then is_some outline.applets else false

-- the applet component, as it is held
abbrev pub applet_component : AppletComponent → Component
applet_component held = record { tag = APPLETS; content = held.content.now }

pub record Outlines (components : List Component) (outline : Outline) : Type 0 where
  pub header : IsTrue outline.header ↔ (1 ≤ count_of HEADER components)
  pub applets : MatchOption outline.applets (count_of APPLETS components ≡ 0) (λ held. Stands held.place (applet_component held) components)
  pub twice : MatchOption outline.twice (NoneRepeats components) (λ place. RepeatsAt place components)
