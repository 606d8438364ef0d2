-- What the contracts of `keypad` cite is Answer.antt, which computes what a number answers. A reviewer must believe what it is proved equal to: the
-- texts, their order, and which number a text has.
pub mod Texts
pub mod Order
pub mod Numbered
pub mod Answer
