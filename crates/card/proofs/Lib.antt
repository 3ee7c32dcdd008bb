-- Tests, lists of bytes, and which bytes the entries of an image are read from.
pub mod Tests
pub mod Parts
pub mod Entries
pub mod Frames
-- Images and heads, and the sessions that fit them.
pub mod Images
pub mod Heads
pub mod Places
pub mod Fitting
-- The order of refusals, the form of a command, and the ways out of `play`.
pub mod Refusals
pub mod Forms
pub mod Numbers
pub mod Walk
-- Refusals keep.
pub mod Keeping
pub mod Refusing
-- Each command keeps a sound head and a session that fits; images stay images.
pub mod Writes
pub mod Ranges
pub mod Replies
pub mod Codes
pub mod Effects
pub mod After
pub mod Stays
-- Hidden bytes stay hidden.
pub mod Blind
pub mod Likeness
pub mod Unseen
pub mod Witness
-- One answer to a SELECT.
pub mod Tree
pub mod Single
