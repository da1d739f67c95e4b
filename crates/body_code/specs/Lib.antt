-- What the contracts of this crate name: what is kept of the sites of a body, and an offset that was found.
pub mod SiteViews
pub mod FallViews
