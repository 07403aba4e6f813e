-- For the code inside. The fields of INSTALL as the code reads them.
use Rattle.std.specs.Prelude.{ℕ, List, [], ◌∷◌}
use Rattle.policy_machine.specs.InstallFields.{InstallData}
use Rattle.policy_machine.specs.InstallLoad.{LoadData}
use Rattle.content_rules.specs.declared.install_fields.FiveFields.{FiveFields}
use Rattle.content_rules.specs.declared.install_fields.InstallFields.{InstallFields}

-- the fields that were read
abbrev pub given_of : InstallFields → InstallData
given_of fields = record {
  first = fields.first.now;
  second = fields.second.now;
  third = fields.third.now;
  privileges = fields.privileges.now;
  parameters = fields.parameters.now;
  token = fields.token.now;
}

-- of five fields those before the token
abbrev pub first_four : FiveFields → List (List ℕ)
first_four fields = fields.first.now ∷ fields.second.now ∷ fields.third.now ∷ fields.fourth.now ∷ []

-- the five fields of an INSTALL [for load]
abbrev pub load_data_of : FiveFields → LoadData
load_data_of fields =
    record { file = fields.first.now; domain = fields.second.now; hash = fields.third.now; parameters = fields.fourth.now; token = fields.token.now }
