-- What the contracts of `site` cite, to be believed: the site stamp, and why a text is refused. Behind these, what computes the same.
pub mod Site
