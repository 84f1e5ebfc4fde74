mod OrderedLaws
mod PlacedLaws
