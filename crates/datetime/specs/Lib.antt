-- What the contracts of `datetime` cite, all of it to be believed: a moment and its instant.
pub mod Moment
