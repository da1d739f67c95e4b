mod WrittenParts
