use Rattle.std.proofs.Common.{ℕ, length, None, Option, ap, ◌∙◌, rules}
use lib.ListN.{length-replicate, get_or-replicate}
use Rattle.unique.proofs.tables.UniqueTable.new.Goals as goal

pub invariant_of-result : goal.invariant_of-result
invariant_of-result c =
    let d = c.in_ok-diamonds.ensures in
    let h = c.in_ok-heads.ensures in
    let l = c.in_ok-links.ensures in
    record {
      few = search rules;
      room = d.1;
      spare = l.1;
      wide = c.in_ok-heads.heads.ok.0 ∙ ap length h ∙ length-replicate {A = Option ℕ} 2039 None;
      level = search rules;
      begun = λ b i. rw (h, d.0) (get_or-replicate 2039 b None None i);
      chained = rw (l.0, d.0);
    }
