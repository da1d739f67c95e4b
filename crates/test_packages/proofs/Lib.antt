mod KnownMore
