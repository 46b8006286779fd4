use Rattle.std.proofs.Common.{eqb}
use Rattle.cache.specs.Placing.{given_at, remainder_within, put_noted}
use Rattle.shy.specs.Shy.{key_lengths, shy_place}
use Rattle.shy.specs.Hidden.{hidden_noted}
use Rattle.shy.proofs.shy.ShyCache.note.Goals as goal

pub returns-clause-noted : goal.returns-clause-noted
returns-clause-noted c =
    let key = c.args.key in
    let before = c.args.table.now in
    let after = c.put_at_place.new.table in
    let cache = c.args.self.now in
    let put = put_noted shy_place (λ n k. remainder_within n (key_lengths k)) before after key c.args.edge c.put_at_place.ensures in
    rw c.shut_after-self.ensures (hidden_noted before after (given_at shy_place before) (given_at shy_place after) key c.args.edge put cache.shut (eqb key.connective cache.closer))
