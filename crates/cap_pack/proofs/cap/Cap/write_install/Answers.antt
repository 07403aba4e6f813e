use Rattle.std.proofs.Common.{◌≡◌, ◌≤◌, ap, arith, length, ◌∙◌, ℕ, List, [], ◌∷◌}
use Rattle.apdu_core.specs.Apdu.{Apdu}
use Rattle.script_tool.specs.Tokens.{install_command}
use Rattle.script_lines.specs.declared.tokens.Tokens.TheVariants.{Absent}
use Rattle.cap_pack.proofs.PackRules.{short_file}
use Rattle.cap_pack.proofs.cap.Cap.write_install.Goals as goal

pub write_send-requires : goal.write_send-requires
write_send-requires c = record {
  short = (let hash : List ℕ = c.digest-hash.result in
      let file : List ℕ = c.args.self.now.package in
      let is : length c.command.result.body.now ≡ length (install_command Absent 0x02 (file ∷ [] ∷ hash ∷ [] ∷ [])).body =
      ap (λ (a : Apdu). length a.body) (c.command.ensures ∙ c.install_for_load-install.ensures) in
      let short : length hash ≤ 32 = omega arith in
      omega (arith, is, short_file file hash c.requires short));
}
