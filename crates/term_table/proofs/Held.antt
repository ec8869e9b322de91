-- What a live handle stands for, as the slots tell.
pub use Rattle.table_slots.proofs.Held.{slot_held, held_slot}
