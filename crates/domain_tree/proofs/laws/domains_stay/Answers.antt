use Rattle.domain_tree.proofs.DomainsStay.{domains_after_applications, domains_after_change, domains_after_entry, domains_after_entry_added, domains_after_move}
use Rattle.domain_tree.proofs.laws.domains_stay.Goals as goal

pub returns : goal.returns
returns c = record { added = domains_after_entry_added; changed = domains_after_change; moved = domains_after_move; removed = domains_after_entry; applications = domains_after_applications }
