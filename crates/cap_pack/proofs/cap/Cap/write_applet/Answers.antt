use Rattle.std.proofs.Common.{◌≡◌, ap, arith, length, ◌∙◌, ℕ, List, [], ◌∷◌}
use Rattle.apdu_core.specs.Apdu.{Apdu}
use Rattle.script_tool.specs.Tokens.{install_command}
use Rattle.script_lines.specs.declared.tokens.Tokens.TheVariants.{Absent}
use Rattle.cap_pack.specs.Pack.{installing_applet}
use Rattle.cap_pack.proofs.PackRules.{short_applet}
use Rattle.cap_pack.proofs.cap.Cap.write_applet.Goals as goal

pub write_send-requires : goal.write_send-requires
write_send-requires c = record {
  short = (let file : List ℕ = c.args.self.now.package in
      let aid : List ℕ = c.args.applet in
      let privileges : c.push.new.self.items ≡ 0x00 ∷ [] = rw c.new-privileges.ensures at c.push.ensures.items in
      let parameters : c.push-3.new.self.items ≡ 0xC9 ∷ 0x00 ∷ [] = rw (c.push-2.ensures.items, c.new-parameters.ensures) at c.push-3.ensures.items in
      let whole : install_command Absent 0x0C (file ∷ aid ∷ aid ∷ c.push.new.self.items ∷ c.push-3.new.self.items ∷ []) ≡ installing_applet file aid =
      λ i. install_command Absent 0x0C (file ∷ aid ∷ aid ∷ privileges i ∷ parameters i ∷ []) in
      let is : length c.command-2.result.body.now ≡ length (installing_applet file aid).body =
      ap (λ (a : Apdu). length a.body) (c.command-2.ensures ∙ c.command.ensures ∙ whole) in
      omega (arith, is, short_applet file aid c.requires.file c.requires.applet));
}
