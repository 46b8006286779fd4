use Rattle.cache.specs.Slots.{key_number, slot_place}
use Rattle.cache.specs.Placing.{remainder_within, put_noted}
use Rattle.cache.proofs.slot.SlotCache.note.Goals as goal

pub returns-clause-noted : goal.returns-clause-noted
returns-clause-noted c =
    put_noted slot_place (λ n k. remainder_within n (key_number k)) c.args.table.now c.put_at_place.new.table c.args.key c.args.edge c.put_at_place.ensures
